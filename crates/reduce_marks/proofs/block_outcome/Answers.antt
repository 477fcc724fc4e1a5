-- `reduce_marks::block_outcome` meets its contract: the leaders are elements. Assumes nothing.
use Prim.Native.Nat.{◌+◌}
use mathlib.Core.Path.{refl}
use native.Mathlib.Omega.{arith}
use Rattle.scratch.specs.Map.{leaders_base}
use Rattle.reduce_first_round.specs.Map.{outcome_at}
use Rattle.reduce_table.specs.Layout.{block_outcome}
use Rattle.reduce_marks.proofs.block_outcome.Goals as goal

pub overflow_cast-a : goal.overflow_cast-a
overflow_cast-a c = omega (arith, c.type_inv.scratch (leaders_base + c.args.i))

pub overflow_cast-b : goal.overflow_cast-b
overflow_cast-b c = omega (arith, c.type_inv.scratch (leaders_base + c.args.j))

pub overflow_mul-result : goal.overflow_mul-result
overflow_mul-result c = omega (arith, c.requires.blocks_needs.leaders _ c.requires.i_lt_c.0)

pub overflow_add-result : goal.overflow_add-result
overflow_add-result c =
    omega (arith, c.requires.blocks_needs.leaders _ c.requires.i_lt_c.0, c.requires.blocks_needs.leaders _ c.requires.i_lt_c.1)

pub overflow_add-result-2 : goal.overflow_add-result-2
overflow_add-result-2 c =
    omega (arith, c.requires.blocks_needs.leaders _ c.requires.i_lt_c.0, c.requires.blocks_needs.leaders _ c.requires.i_lt_c.1)

pub bounds-scratch-a : goal.bounds-scratch-a
bounds-scratch-a c =
    omega (arith, c.requires.blocks_needs.leaders _ c.requires.i_lt_c.0, c.requires.blocks_needs.leaders _ c.requires.i_lt_c.1, c.requires.blocks_needs.room)

pub returns : goal.returns
unfolding block_outcome outcome_at
returns c = refl

-- `reduce_first_round::first_blocks` meets its contract: the elements that were passed have their blocks. Assumes nothing.
use native.Mathlib.Omega.{arith}
use Rattle.scratch.specs.Map.{blocks_base}
use Rattle.scratch.proofs.Unchanged.{unchanged_room}
use Rattle.reduce_first_round.proofs.BlockBytes.{written_none, written_all}
use Rattle.reduce_first_round.proofs.Writing.{first_more}
use Rattle.reduce_first_round.proofs.first_blocks.Goals as goal

pub loop-s-init : goal.loop-s-init
loop-s-init c = written_none blocks_base _

pub first_alike-t-requires : goal.first_alike-t-requires
first_alike-t-requires c = record {
  table = c.requires.table;
  s_lt_n = c.loop-s-test.true;
  scratch_size_in_bounds = unchanged_room c.loop-s.invariant.kept c.requires.scratch_size_in_bounds;
}

pub overflow_cast-scratch : goal.overflow_cast-scratch
overflow_cast-scratch c =
    omega (arith, c.first_alike-t.ensures.at_most, c.requires.table.small)

pub overflow_add-scratch : goal.overflow_add-scratch
overflow_add-scratch c =
    omega (arith, c.requires.table.small)

pub bounds-scratch-s : goal.bounds-scratch-s
bounds-scratch-s c =
    omega (arith, unchanged_room c.loop-s.invariant.kept c.requires.scratch_size_in_bounds, c.requires.table.small)

pub loop-s-preserved : goal.loop-s-preserved
loop-s-preserved c =
    first_more c.requires.table.small c.requires.scratch_size_in_bounds c.loop-s-test.true c.loop-s.invariant c.first_alike-t.ensures

pub shape_of-scratch : goal.shape_of-scratch
shape_of-scratch c = c.loop-s.invariant.kept.same_length

pub returns : goal.returns
returns c = written_all c.loop-s-test.false c.loop-s.invariant

-- `two_rules::move_tables` meets its contract: each turn moves one byte of each table. Assumes nothing.
use Prim.Native.Nat.{◌+◌}
use native.Mathlib.Omega.{arith}
use lib.ListN.{get_or, length-set}
use Rattle.scratch.specs.Map.{search_end}
use Rattle.two_rules.proofs.Moving.{moving_start, moving_inside, moving_next, moving_all}
use Rattle.two_rules.proofs.move_tables.Goals as goal

pub loop-i-init : goal.loop-i-init
loop-i-init c = moving_start c.requires

pub bounds-scratch-i : goal.bounds-scratch-i
bounds-scratch-i c = moving_inside c.loop-i.invariant c.loop-i-test.true

pub bounds-scratch-i-in-loop-i : goal.bounds-scratch-i-in-loop-i
bounds-scratch-i-in-loop-i c = omega (arith, moving_inside c.loop-i.invariant c.loop-i-test.true)

pub bounds-scratch-i-in-loop-i-2 : goal.bounds-scratch-i-in-loop-i-2
bounds-scratch-i-in-loop-i-2 c = omega (arith, moving_inside c.loop-i.invariant c.loop-i-test.true)

pub bounds-scratch-i-in-loop-i-3 : goal.bounds-scratch-i-in-loop-i-3
bounds-scratch-i-in-loop-i-3 c = omega (arith, moving_inside c.loop-i.invariant c.loop-i-test.true, length-set c.loop-i.scratch c.loop-i.i (get_or c.loop-i.scratch (search_end + c.loop-i.i) 0))

pub loop-i-preserved : goal.loop-i-preserved
loop-i-preserved c = moving_next c.loop-i.invariant c.loop-i-test.true

pub shape_of-scratch : goal.shape_of-scratch
shape_of-scratch c = c.loop-i.invariant.moved.same_length

pub returns : goal.returns
returns c = moving_all c.loop-i.invariant c.loop-i-test.false

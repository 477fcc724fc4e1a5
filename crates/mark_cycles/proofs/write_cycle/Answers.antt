-- The loop holds that the letters before the entry at hand were written. A parent comes before its entry, so the entry's number
-- is a measure. Assumes nothing.
use native.Mathlib.Omega.{arith}
use mir.Facts.{Fits-8_64}
use Rattle.mark_cycles.proofs.Writing.{cycle_start, still_few, parent_less, letter_room, cycle_more, cycle_done}
use Rattle.mark_cycles.proofs.write_cycle.Goals as goal

pub loop-i-init : goal.loop-i-init
loop-i-init c = cycle_start c.requires

pub overflow_add-i : goal.overflow_add-i
overflow_add-i c = omega (arith, still_few c.requires c.loop-i.invariant)

pub bounds-scratch-i : goal.bounds-scratch-i
bounds-scratch-i c = omega (arith, still_few c.requires c.loop-i.invariant, c.requires.room)

pub overflow_cast-scratch : goal.overflow_cast-scratch
overflow_cast-scratch c = Fits-8_64 (c.type_inv.scratch _)

pub overflow_add-out : goal.overflow_add-out
overflow_add-out c = omega (arith, still_few c.requires c.loop-i.invariant)

pub bounds-scratch-i-in-loop-i : goal.bounds-scratch-i-in-loop-i
bounds-scratch-i-in-loop-i c =
    omega (arith, still_few c.requires c.loop-i.invariant, c.requires.room)

pub bounds-out-letters : goal.bounds-out-letters
bounds-out-letters c =
    letter_room c.requires c.loop-i.invariant c.loop-i-test.true

pub overflow_add-letters : goal.overflow_add-letters
overflow_add-letters c =
    omega (arith, c.loop-i.invariant.short, c.requires.few)

pub parent-i-requires : goal.parent-i-requires
parent-i-requires c =
    (c.requires.room, still_few c.requires c.loop-i.invariant)

pub loop-i-smaller : goal.loop-i-smaller
loop-i-smaller c =
    omega (arith, parent_less c.requires c.loop-i.invariant c.loop-i-test.true, c.parent-i.ensures)

pub loop-i-preserved : goal.loop-i-preserved
loop-i-preserved c =
    cycle_more c.requires c.loop-i.invariant c.loop-i-test.true c.parent-i.ensures

pub shape_of-out : goal.shape_of-out
shape_of-out c = c.loop-i.invariant.same_length

pub returns : goal.returns
returns c = cycle_done c.requires c.loop-i.invariant c.loop-i-test.false

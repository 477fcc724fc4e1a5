-- `formula_run::run_operations` meets its contract: the formulas so far stand on the stack, and the verdict from the operation at hand on is that of all.
-- Assumes nothing.
use native.Mathlib.Omega.{arith}
use Rattle.formula_run.proofs.Needs.{scanned_some, scanned_letters, scanned_length, apply_needs}
use Rattle.formula_run.proofs.Rooms.{lengths_none, room_kept, lengths_on}
use Rattle.formula_run.proofs.Steps.{running_start, operation_passed, running_refused, size_some, size_within, running_next, not_refused, running_done}
use Rattle.formula_run.proofs.run_operations.Goals as goal

pub loop-at-init : goal.loop-at-init
loop-at-init c = (running_start c.requires.first_failure, lengths_none)

pub read-operation-requires : goal.read-operation-requires
read-operation-requires c = omega (arith, c.loop-at-test.true, scanned_length c.requires.first_failure)

pub apply-requires : goal.apply-requires
apply-requires c =
    let held = c.loop-at.invariant in record {
      apply_needs = apply_needs (operation_passed held.0 c.loop-at-test.true) c.read-operation.ensures (scanned_some c.requires.first_failure) (scanned_letters c.requires.first_failure) held.0.few;
      lent_room = room_kept held.1 c.requires.lent_room;
    }

pub overflow_add-at : goal.overflow_add-at
overflow_add-at c =
    omega (arith, size_within c.loop-at.invariant.0 c.loop-at-test.true c.read-operation.ensures c.apply.ensures.applied c.size-at.ensures, scanned_length c.requires.first_failure)

pub loop-at-smaller : goal.loop-at-smaller
loop-at-smaller c =
    omega (arith, c.loop-at-test.true, size_some c.loop-at.invariant.0 c.loop-at-test.true c.read-operation.ensures c.apply.ensures.applied c.size-at.ensures)

pub loop-at-preserved : goal.loop-at-preserved
loop-at-preserved c =
    let held = c.loop-at.invariant in
    (running_next held.0 c.loop-at-test.true c.read-operation.ensures c.apply.ensures.applied c.size-at.ensures c.height_after-height.ensures (not_refused _ c.in_default.not-Err), lengths_on held.1 c.apply.ensures.lengths)

pub shape_of-stack-in-Err : goal.shape_of-stack-in-Err
shape_of-stack-in-Err c = (lengths_on c.loop-at.invariant.1 c.apply.ensures.lengths).stack_length

pub shape_of-spare-in-Err : goal.shape_of-spare-in-Err
shape_of-spare-in-Err c = (lengths_on c.loop-at.invariant.1 c.apply.ensures.lengths).spare_length

pub shape_of-classes-in-Err : goal.shape_of-classes-in-Err
shape_of-classes-in-Err c = (lengths_on c.loop-at.invariant.1 c.apply.ensures.lengths).classes_length

pub shape_of-scratch-in-Err : goal.shape_of-scratch-in-Err
shape_of-scratch-in-Err c = (lengths_on c.loop-at.invariant.1 c.apply.ensures.lengths).scratch_length

pub returns-in-Err : goal.returns-in-Err
returns-in-Err c =
    let held = c.loop-at.invariant in record {
      ran = running_refused held.0 c.loop-at-test.true c.read-operation.ensures c.apply.ensures.applied c.in-Err.is;
      lengths = lengths_on held.1 c.apply.ensures.lengths;
    }

pub shape_of-stack : goal.shape_of-stack
shape_of-stack c = c.loop-at.invariant.1.stack_length

pub shape_of-spare : goal.shape_of-spare
shape_of-spare c = c.loop-at.invariant.1.spare_length

pub shape_of-classes : goal.shape_of-classes
shape_of-classes c = c.loop-at.invariant.1.classes_length

pub shape_of-scratch : goal.shape_of-scratch
shape_of-scratch c = c.loop-at.invariant.1.scratch_length

pub returns : goal.returns
returns c =
    let held = c.loop-at.invariant in record {
      ran = running_done held.0 c.loop-at-test.false;
      lengths = held.1;
    }

-- The loop holds that the pairs (s, e) that were passed have their marks. Assumes nothing.
use native.Mathlib.Omega.{arith}
use Rattle.scratch.proofs.Rows.{filled_none, filled_all}
use Rattle.word_rule.proofs.Marks.{needs_kept, mark_room, mark_more}
use Rattle.word_rule.proofs.clear_row.Goals as goal

pub loop-e-init : goal.loop-e-init
loop-e-init c = (filled_none _ _, omega arith)

pub linked_byte-mark-requires : goal.linked_byte-mark-requires
linked_byte-mark-requires c = record {
  grades_needs = needs_kept c.loop-e.invariant.0.kept c.requires.grades_needs;
  s_lt_count = (c.requires.s_lt_count, c.loop-e-test.true);
}

pub overflow_mul-scratch : goal.overflow_mul-scratch
overflow_mul-scratch c = omega (arith, c.requires.grades_needs.few)

pub overflow_add-scratch : goal.overflow_add-scratch
overflow_add-scratch c = omega (arith, c.requires.grades_needs.few)

pub overflow_add-scratch-in-loop-e : goal.overflow_add-scratch-in-loop-e
overflow_add-scratch-in-loop-e c = omega (arith, c.requires.grades_needs.few)

pub bounds-scratch-s : goal.bounds-scratch-s
bounds-scratch-s c =
    mark_room c.requires.grades_needs c.requires.s_lt_count c.loop-e.invariant.0 c.loop-e-test.true

pub loop-e-preserved : goal.loop-e-preserved
loop-e-preserved c =
    (mark_more c.requires.grades_needs c.requires.s_lt_count c.loop-e.invariant.0 c.loop-e-test.true c.linked_byte-mark.ensures, omega arith)

pub shape_of-scratch : goal.shape_of-scratch
shape_of-scratch c = c.loop-e.invariant.0.kept.same_length

pub returns : goal.returns
returns c = filled_all c.loop-e.invariant.1 c.loop-e-test.false c.loop-e.invariant.0

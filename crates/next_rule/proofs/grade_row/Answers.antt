-- The loop holds that the pairs (s, e) that were passed have their grades. Assumes nothing.
use native.Mathlib.Omega.{arith}
use Rattle.scratch.proofs.Rows.{filled_none, filled_all}
use Rattle.next_rule.proofs.Grades.{row_small, grade_room, grade_more}
use Rattle.next_rule.proofs.grade_row.Goals as goal

pub loop-e-init : goal.loop-e-init
loop-e-init c = (filled_none _ _, omega arith)

pub next_grade-grade-requires : goal.next_grade-grade-requires
next_grade-grade-requires c = record {
  pairs_small = row_small c.requires.pairs_small c.requires.s_lt_count c.loop-e.invariant.0 c.loop-e-test.true;
  s_lt_count = (c.requires.s_lt_count, c.loop-e-test.true);
}

pub overflow_mul-scratch : goal.overflow_mul-scratch
overflow_mul-scratch c = omega (arith, c.requires.pairs_small.few)

pub overflow_add-scratch : goal.overflow_add-scratch
overflow_add-scratch c = omega (arith, c.requires.pairs_small.few)

pub overflow_add-scratch-in-loop-e : goal.overflow_add-scratch-in-loop-e
overflow_add-scratch-in-loop-e c = omega (arith, c.requires.pairs_small.few)

pub bounds-scratch-s : goal.bounds-scratch-s
bounds-scratch-s c = grade_room c.requires.pairs_small c.requires.s_lt_count c.loop-e.invariant.0 c.loop-e-test.true

pub loop-e-preserved : goal.loop-e-preserved
loop-e-preserved c = (grade_more c.requires.pairs_small c.requires.s_lt_count c.loop-e.invariant.0 c.loop-e-test.true c.next_grade-grade.ensures, omega arith)

pub shape_of-scratch : goal.shape_of-scratch
shape_of-scratch c = c.loop-e.invariant.0.kept.same_length

pub returns : goal.returns
returns c = filled_all c.loop-e.invariant.1 c.loop-e-test.false c.loop-e.invariant.0

-- The loop holds that the rows that were passed have their grades. Assumes nothing.
use native.Mathlib.Omega.{arith}
use Rattle.scratch.specs.Map.{laid_marks_base}
use Rattle.scratch.proofs.Rows.{rows_none, rows_all}
use Rattle.next_rule.proofs.Grades.{rows_small, row_more}
use Rattle.next_rule.proofs.lay_grades.Goals as goal

pub loop-s-init : goal.loop-s-init
loop-s-init c = (rows_none laid_marks_base 64 _ _, omega arith)

pub grade_row-requires : goal.grade_row-requires
grade_row-requires c = record {
  pairs_small = rows_small c.requires c.loop-s-test.true c.loop-s.invariant.0;
  s_lt_count = c.loop-s-test.true;
}

pub loop-s-preserved : goal.loop-s-preserved
loop-s-preserved c = (row_more c.requires c.loop-s-test.true c.loop-s.invariant.0 c.grade_row.ensures, omega arith)

pub shape_of-scratch : goal.shape_of-scratch
shape_of-scratch c = c.loop-s.invariant.0.kept.same_length

pub returns : goal.returns
returns c = rows_all c.loop-s.invariant.1 c.loop-s-test.false c.loop-s.invariant.0

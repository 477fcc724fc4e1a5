-- The loop holds that the rows that were passed have their bytes. Assumes nothing.
use native.Mathlib.Omega.{arith}
use Rattle.scratch.specs.Map.{until_grades_base}
use Rattle.scratch.proofs.Rows.{rows_none, rows_all}
use Rattle.until_grades.proofs.Grades.{rows_needs, row_more}
use Rattle.until_grades.proofs.lay_grades.Goals as goal

pub loop-t-init : goal.loop-t-init
loop-t-init c = (rows_none until_grades_base 64 _ _, omega arith)

pub grades_row-requires : goal.grades_row-requires
grades_row-requires c = record {
  grades_needs = rows_needs c.requires c.loop-t-test.true c.loop-t.invariant.0;
  t_lt_count = c.loop-t-test.true;
}

pub loop-t-preserved : goal.loop-t-preserved
loop-t-preserved c = (row_more c.requires c.loop-t-test.true c.loop-t.invariant.0 c.grades_row.ensures, omega arith)

pub shape_of-scratch : goal.shape_of-scratch
shape_of-scratch c = c.loop-t.invariant.0.kept.same_length

pub returns : goal.returns
returns c = rows_all c.loop-t.invariant.1 c.loop-t-test.false c.loop-t.invariant.0

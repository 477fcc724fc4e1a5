-- The loop holds that the rows that were passed are copied. Assumes nothing.
use native.Mathlib.Omega.{arith}
use Rattle.scratch.proofs.Rows.{rows_all}
use Rattle.until_step.proofs.Rows.{row_place, class_more}
use Rattle.until_step.proofs.class_rows.Goals as goal

pub class_row-requires : goal.class_row-requires
class_row-requires c = row_place c.requires c.loop-t-test.true c.loop-t.invariant.0

pub loop-t-preserved : goal.loop-t-preserved
loop-t-preserved c =
    (class_more c.requires c.loop-t-test.true c.loop-t.invariant.0 c.class_row.ensures, omega arith)

pub returns : goal.returns
returns c = rows_all c.loop-t.invariant.1 c.loop-t-test.false c.loop-t.invariant.0

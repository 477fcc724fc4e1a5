-- The loop holds that the rows that were passed have what the entry makes of them. Assumes nothing.
use native.Mathlib.Omega.{arith}
use Rattle.scratch.proofs.Rows.{rows_all}
use Rattle.until_step.proofs.Rows.{rows_needs, step_row_more}
use Rattle.until_step.proofs.step_rows.Goals as goal

pub step_row-requires : goal.step_row-requires
step_row-requires c = record {
  step_needs = rows_needs c.requires c.loop-s-test.true c.loop-s.invariant.0;
  s_lt_np = c.loop-s-test.true;
}

pub loop-s-preserved : goal.loop-s-preserved
loop-s-preserved c =
    (step_row_more c.requires c.loop-s-test.true c.loop-s.invariant.0 c.step_row.ensures, omega arith)

pub returns : goal.returns
returns c = rows_all c.loop-s.invariant.1 c.loop-s-test.false c.loop-s.invariant.0

-- The loop holds that the rows so far are stored. Assumes nothing.
use native.Mathlib.Omega.{arith}
use Rattle.scratch.proofs.Rows.{rows_none, rows_all}
use Rattle.until_search.proofs.Storing.{needs_now, row_more}
use Rattle.until_search.proofs.store_class.Goals as goal

pub loop-t-init : goal.loop-t-init
loop-t-init c = (rows_none _ 64 _ _, omega arith)

pub store_row-requires : goal.store_row-requires
store_row-requires c = record {
  store_needs = needs_now c.requires c.loop-t.invariant.0.kept;
  t_lt_np = c.loop-t-test.true;
}

pub loop-t-preserved : goal.loop-t-preserved
loop-t-preserved c =
    (row_more c.requires c.loop-t-test.true c.loop-t.invariant.0 c.store_row.ensures, omega arith)

pub shape_of-classes : goal.shape_of-classes
shape_of-classes c = c.loop-t.invariant.0.kept.same_length

pub returns : goal.returns
returns c = rows_all c.loop-t.invariant.1 c.loop-t-test.false c.loop-t.invariant.0

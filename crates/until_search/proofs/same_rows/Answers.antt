-- The loop holds that the rows so far are the same. Assumes nothing.
use Rattle.finite.proofs.Each.{each_none, each_told, each_all, each_told_not}
use mathlib.Core.Bool.{not}
use mathlib.Core.Path.{ap}
use Rattle.until_search.proofs.same_rows.Goals as goal

pub loop-t-init : goal.loop-t-init
loop-t-init c = each_none

pub same_row-requires : goal.same_row-requires
same_row-requires c = record {
  search_needs = c.requires.search_needs;
  j_bound = (c.requires.j_bound, c.loop-t-test.true);
}

pub returns-then-not-same_row : goal.returns-then-not-same_row
returns-then-not-same_row c = each_told_not c.loop-t-test.true c.same_row.ensures (ap not c.if-not-same_row.true)

pub loop-t-preserved : goal.loop-t-preserved
loop-t-preserved c = each_told c.loop-t.invariant c.same_row.ensures (ap not c.if-not-same_row.false)

pub returns : goal.returns
returns c = each_all c.loop-t.invariant c.loop-t-test.false

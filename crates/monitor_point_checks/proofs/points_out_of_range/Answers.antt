-- `monitor_point_checks::points_out_of_range` meets its contract: the loop passes only good names, so that a name which stops it was kept
-- with a value out of range, and where none does there is no such name. Assumes nothing.
use native.Mathlib.Omega.{arith}
use Rattle.monitor_point_checks.proofs.PointChecks.{none_yet, one_more, found_stray, all_good, said_kept_stray, said_kept_good}
use Rattle.monitor_point_checks.proofs.points_out_of_range.Goals as goal

pub loop-name-init : goal.loop-name-init
loop-name-init c = (none_yet, omega arith)

pub name_out_of_range-requires : goal.name_out_of_range-requires
name_out_of_range-requires c = (c.requires, c.loop-name-test.true)

pub returns-then-name_out_of_range : goal.returns-then-name_out_of_range
returns-then-name_out_of_range c =
    let a = c.name_out_of_range in
    found_stray c.loop-name-test.true (said_kept_stray _ _ _ a.result a.ensures c.if-name_out_of_range.true)

pub loop-name-preserved : goal.loop-name-preserved
loop-name-preserved c =
    let a = c.name_out_of_range in
    (one_more c.loop-name.invariant.0 (said_kept_good _ _ _ a.result a.ensures c.if-name_out_of_range.false), omega arith)

pub returns : goal.returns
returns c = all_good c.loop-name.invariant.0 c.loop-name-test.false

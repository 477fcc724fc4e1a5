-- `monitor_point_checks::values_out_of_range` meets its contract: the monitor's two values, and then the points decide. Assumes nothing.
use mathlib.Core.Logic.{inl}
use Rattle.monitor_state.proofs.Numbers.{said_stray, said_good}
use Rattle.monitor_point_checks.proofs.PointChecks.{points_decide}
use Rattle.monitor_point_checks.proofs.values_out_of_range.Goals as goal

pub returns-then-out_of_range : goal.returns-then-out_of_range
returns-then-out_of_range c =
    let a = c.out_of_range in
    inl (said_stray _ _ a.result a.ensures c.if-out_of_range.true)

pub returns : goal.returns
returns c =
    let a = c.out_of_range in
    points_decide _ _ _ c.points_out_of_range.result (said_good _ _ a.result a.ensures c.if-out_of_range.false) c.points_out_of_range.ensures

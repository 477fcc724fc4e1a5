-- `monitor_point_checks::return_fault` meets its contract: the name first, then whether it was kept, then the values. Assumes nothing.
use Rattle.monitor_point_checks.proofs.PointChecks.{return_name, return_never, return_stray, return_good, said_any_stray, said_all_good}
use Rattle.monitor_point_checks.proofs.return_fault.Goals as goal

pub returns-then-name-ge-NAMES_COUNT : goal.returns-then-name-ge-NAMES_COUNT
returns-then-name-ge-NAMES_COUNT c = return_name _ _ _ _ c.if-name-ge-NAMES_COUNT.true

pub returns-then-points-name-eq0 : goal.returns-then-points-name-eq0
returns-then-points-name-eq0 c = return_never _ _ _ _ c.if-name-ge-NAMES_COUNT.false c.if-points-name-eq0.true

pub returns-then-values_out_of_range : goal.returns-then-values_out_of_range
returns-then-values_out_of_range c =
    let a = c.values_out_of_range in
    return_stray _ _ _ _ c.if-name-ge-NAMES_COUNT.false c.if-points-name-eq0.false (said_any_stray _ _ _ a.result a.ensures c.if-values_out_of_range.true)

pub returns : goal.returns
returns c =
    let a = c.values_out_of_range in
    return_good _ _ _ _ c.if-name-ge-NAMES_COUNT.false c.if-points-name-eq0.false (said_all_good _ _ _ a.result a.ensures c.if-values_out_of_range.false)

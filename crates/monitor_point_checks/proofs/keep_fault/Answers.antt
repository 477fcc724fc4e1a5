-- `monitor_point_checks::keep_fault` meets its contract: the name first, then the values. Assumes nothing.
use Rattle.monitor_point_checks.proofs.PointChecks.{keep_name, keep_stray, keep_good, said_any_stray, said_all_good}
use Rattle.monitor_point_checks.proofs.keep_fault.Goals as goal

pub returns-then-name-ge-NAMES_COUNT : goal.returns-then-name-ge-NAMES_COUNT
returns-then-name-ge-NAMES_COUNT c = keep_name _ _ _ _ c.if-name-ge-NAMES_COUNT.true

pub returns-then-values_out_of_range : goal.returns-then-values_out_of_range
returns-then-values_out_of_range c =
    let a = c.values_out_of_range in
    keep_stray _ _ _ _ c.if-name-ge-NAMES_COUNT.false (said_any_stray _ _ _ a.result a.ensures c.if-values_out_of_range.true)

pub returns : goal.returns
returns c =
    let a = c.values_out_of_range in
    keep_good _ _ _ _ c.if-name-ge-NAMES_COUNT.false (said_all_good _ _ _ a.result a.ensures c.if-values_out_of_range.false)

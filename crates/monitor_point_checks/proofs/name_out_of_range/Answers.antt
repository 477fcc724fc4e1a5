-- `monitor_point_checks::name_out_of_range` meets its contract: a name never kept is good, and of another its values decide. Assumes nothing.
use mir.Facts.{Fits-8_64}
use Rattle.monitor_point_checks.proofs.PointChecks.{never_kept_good, kept_decides}
use Rattle.monitor_point_checks.proofs.name_out_of_range.Goals as goal

pub returns-then-points-name-eq0 : goal.returns-then-points-name-eq0
returns-then-points-name-eq0 c = never_kept_good _ _ _ c.if-points-name-eq0.true

pub overflow_cast-before : goal.overflow_cast-before
overflow_cast-before c = Fits-8_64 (c.type_inv.points _)

pub overflow_cast-since : goal.overflow_cast-since
overflow_cast-since c = Fits-8_64 (c.type_inv.points _)

pub returns : goal.returns
returns c = kept_decides _ _ _ c.if-points-name-eq0.false c.out_of_range.result c.out_of_range.ensures

-- `monitor_point_checks::points_out_of_range` meets its contract: the loop passes only good names, so that a name which stops it was kept
-- with a value out of range, and where none does there is no such name. Assumes nothing.
use Prim.Native.Nat.{◌≤◌}
use Rattle.monitor_point_checks.specs.PointChecks.{NoneBelow}
use Rattle.monitor_point_checks.proofs.points_out_of_range.Given as goal

abbrev pub invariant-loop-name : goal.invariant-loop-name
invariant-loop-name l = NoneBelow l.n l.points l.name × (l.name ≤ 8)

-- `keep_and_return_call::begin` meets its contract: short points are refused first, then the rule; else scratch is zeros. Assumes nothing.
use Rattle.std.proofs.Common.{refl}
use Rattle.answer.proofs.PassedOn.{passed_on}
use Rattle.keep_and_return_call.specs.Begun.{BegunPromise}
use Rattle.keep_and_return_call.proofs.Ways.{begun_short, begun_refused, begun_elements}
use Rattle.keep_and_return_call.proofs.begin.Goals as goal

pub returns-then-points-lt-POINTS_SIZE : goal.returns-then-points-lt-POINTS_SIZE
returns-then-points-lt-POINTS_SIZE c = begun_short _ _ _ c.if-points-lt-POINTS_SIZE.true

pub returns-in_err-shape : goal.returns-in_err-shape
returns-in_err-shape c =
    let a = c.args in
    passed_on (BegunPromise a.rule.now a.points.now a.scratch.now c.check.new.scratch) c.from_residual.result c.from_residual.ensures.1
    (begun_refused _ _ _ _ _ c.if-points-lt-POINTS_SIZE.false c.in_err-shape.ensures refl)

pub returns : goal.returns
returns c = begun_elements _ _ _ _ _ c.if-points-lt-POINTS_SIZE.false c.in_ok-shape.ensures refl c.zero.ensures

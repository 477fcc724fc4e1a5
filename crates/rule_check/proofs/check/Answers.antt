-- `rule_check::check` meets its contract: a short scratch first, then the rule's own checks; every refusal but the first leaves zeros.
-- Assumes nothing.
use Rattle.rule_check.proofs.Promise.{short_scratch, rule_promise, refused_promise}
use Rattle.rule_check.proofs.check.Goals as goal

pub returns-then-scratch-lt-SCRATCH_SIZE : goal.returns-then-scratch-lt-SCRATCH_SIZE
returns-then-scratch-lt-SCRATCH_SIZE c = short_scratch _ _ _ c.if-scratch-lt-SCRATCH_SIZE.true

pub returns-in-Ok : goal.returns-in-Ok
returns-in-Ok c = rule_promise _ _ _ _ c.if-scratch-lt-SCRATCH_SIZE.false c.in-Ok.ensures

pub returns-in-Err : goal.returns-in-Err
returns-in-Err c = refused_promise _ _ _ _ c.if-scratch-lt-SCRATCH_SIZE.false c.in-Err.ensures c.zero.ensures

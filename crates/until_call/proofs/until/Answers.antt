-- `until_call::until` meets its contract: a short buffer is refused first; else the answer stands, and the classes are cleared. Assumes nothing.
use Rattle.until_call.proofs.Calling.{out_short, classes_short, scratch_short, long_made}
use Rattle.until_call.proofs.until.Goals as goal

pub returns-then-out-lt-RULE_SIZE : goal.returns-then-out-lt-RULE_SIZE
returns-then-out-lt-RULE_SIZE c = out_short _ _ _ _ _ c.if-out-lt-RULE_SIZE.true

pub returns-then-classes-lt-UNTIL_CLASSES_SIZE : goal.returns-then-classes-lt-UNTIL_CLASSES_SIZE
returns-then-classes-lt-UNTIL_CLASSES_SIZE c = classes_short _ _ _ _ _ c.if-out-lt-RULE_SIZE.false c.if-classes-lt-UNTIL_CLASSES_SIZE.true

pub returns-then-scratch-lt-SCRATCH_SIZE : goal.returns-then-scratch-lt-SCRATCH_SIZE
returns-then-scratch-lt-SCRATCH_SIZE c = scratch_short _ _ _ _ _ c.if-out-lt-RULE_SIZE.false c.if-classes-lt-UNTIL_CLASSES_SIZE.false c.if-scratch-lt-SCRATCH_SIZE.true

pub returns : goal.returns
returns c = long_made _ _ _ _ _ c.if-out-lt-RULE_SIZE.false c.if-classes-lt-UNTIL_CLASSES_SIZE.false c.if-scratch-lt-SCRATCH_SIZE.false c.until_long-answer.ensures c.zero.ensures

-- The entry is the empty word or a class. Assumes nothing.
use Rattle.until_step.proofs.Rows.{entry_empty, entry_class}
use Rattle.until_step.proofs.entry_byte.Goals as goal

pub returns-then-from-eq0 : goal.returns-then-from-eq0
returns-then-from-eq0 c = entry_empty _ _ _ _ c.if-from-eq0.true

pub returns : goal.returns
returns c = entry_class _ _ _ _ c.if-from-eq0.false

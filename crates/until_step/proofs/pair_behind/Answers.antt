-- The entry is the empty word or a class. Assumes nothing.
use Rattle.until_step.proofs.Rows.{pair_letter, pair_longer}
use Rattle.until_step.proofs.pair_behind.Goals as goal

pub returns-then-from-eq0 : goal.returns-then-from-eq0
returns-then-from-eq0 c = pair_letter _ _ _ _ c.if-from-eq0.true

pub returns : goal.returns
returns c = pair_longer _ _ _ _ c.if-from-eq0.false

-- `mark_closure::within` meets its contract: at the places that were passed the second table is no higher than the first. The
-- measure is the number of places left. Assumes nothing.
use Rattle.mark_closure.proofs.Answers.{within-start, within-next, within-not, within_all}
use Rattle.mark_closure.proofs.within.Goals as goal

pub loop-i-init : goal.loop-i-init
loop-i-init c = within-start

pub returns-then-scratch-i : goal.returns-then-scratch-i
returns-then-scratch-i c = within-not c.loop-i-test.true c.if-scratch-i.true

pub loop-i-preserved : goal.loop-i-preserved
loop-i-preserved c = within-next c.loop-i.invariant c.if-scratch-i.false

pub returns : goal.returns
returns c = within_all c.loop-i.invariant c.loop-i-test.false

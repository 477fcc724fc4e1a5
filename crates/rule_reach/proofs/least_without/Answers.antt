-- The loop holds that every element before the one at hand has a number; it ends at the first that has none, or after all.
-- The measure is the number of elements left. Assumes nothing.
use Rattle.rule_reach.proofs.Without.{without_start, without_next, without_found, without_all}
use Rattle.rule_reach.proofs.least_without.Goals as goal

pub loop-s-init : goal.loop-s-init
loop-s-init c = without_start

pub returns-then-queue-s-eq0 : goal.returns-then-queue-s-eq0
returns-then-queue-s-eq0 c = without_found c.loop-s.invariant c.loop-s-test.true c.if-queue-s-eq0.true

pub loop-s-preserved : goal.loop-s-preserved
loop-s-preserved c = without_next c.loop-s.invariant c.if-queue-s-eq0.false

pub returns : goal.returns
returns c = without_all c.loop-s.invariant c.loop-s-test.false

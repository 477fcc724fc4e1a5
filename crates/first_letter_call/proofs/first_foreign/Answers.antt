-- The loop holds that no letter before the one at hand is foreign and in the set. Assumes nothing.
use Rattle.first_letter_call.proofs.Elements.{foreign_start, foreign_here, foreign_more, foreign_none}
use Rattle.first_letter_call.proofs.first_foreign.Goals as goal

pub loop-a-init : goal.loop-a-init
loop-a-init c = foreign_start

pub returns-then-in_set : goal.returns-then-in_set
returns-then-in_set c = foreign_here c.loop-a.invariant c.loop-a-test.true c.in_set.ensures c.if-in_set.true

pub loop-a-preserved : goal.loop-a-preserved
loop-a-preserved c = foreign_more c.loop-a.invariant c.loop-a-test.true c.in_set.ensures c.if-in_set.false

pub returns : goal.returns
returns c = foreign_none c.loop-a.invariant c.loop-a-test.false

-- The loop holds that none of the first i classes has the two values. Assumes nothing.
use borrow.Author.Rules.{rules}
use Rattle.next_list.proofs.Adding.{found_here, unfound_more, unfound_all}
use Rattle.next_list.proofs.find_pair.Goals as goal

pub same_pair-requires : goal.same_pair-requires
same_pair-requires c = (search rules, search rules)

pub returns-then-same_pair : goal.returns-then-same_pair
returns-then-same_pair c = found_here c.loop-i.invariant c.loop-i-test.true c.same_pair.ensures c.if-same_pair.true

pub loop-i-preserved : goal.loop-i-preserved
loop-i-preserved c = unfound_more c.loop-i.invariant c.loop-i-test.true c.same_pair.ensures c.if-same_pair.false

pub returns : goal.returns
returns c = unfound_all c.loop-i.invariant c.loop-i-test.false

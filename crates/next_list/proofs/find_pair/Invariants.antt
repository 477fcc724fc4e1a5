-- The loop holds that none of the first i classes has the two values. Assumes nothing.
use Rattle.next_list.proofs.Adding.{Unfound}
use Rattle.next_list.proofs.find_pair.Given as goal

abbrev pub invariant-loop-i : goal.invariant-loop-i
invariant-loop-i l = Unfound l.scratch l.count l.tail l.whole l.i

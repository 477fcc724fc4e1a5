-- `mark_closure::within` meets its contract: at the places that were passed the second table is no higher than the first. The
-- measure is the number of places left. Assumes nothing.
use Rattle.mark_closure.specs.Closing.{SecondInFirst}
use Rattle.mark_closure.proofs.within.Given as goal

abbrev pub invariant-loop-i : goal.invariant-loop-i
invariant-loop-i l = SecondInFirst l.scratch l.i

-- The loop holds that the letters before the entry at hand were written. A parent comes before its entry, so the entry's number
-- is a measure. Assumes nothing.
use Rattle.mark_cycles.proofs.Writing.{CycleSoFar}
use Rattle.mark_cycles.proofs.write_cycle.Given as goal

abbrev pub invariant-loop-i : goal.invariant-loop-i
invariant-loop-i l = CycleSoFar l.n l.scratch l.entry l.initial.out l.out l.letters l.i

abbrev pub decreases-loop-i : goal.decreases-loop-i
decreases-loop-i l = l.i

-- The loop holds a byte that no passed mark below the grade is above, each less the grade and modulo 256. Assumes nothing.
use Rattle.mark_grade_search.proofs.Grades.{TopBelow}
use Rattle.mark_grade_search.proofs.highest_below.Given as goal

abbrev pub invariant-loop-mark : goal.invariant-loop-mark
invariant-loop-mark l = TopBelow l.scratch l.first l.mark-index l.below l.top

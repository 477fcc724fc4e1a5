-- The loop holds that no cycle escapes at the grades that were passed. Assumes nothing.
use Rattle.formats.specs.Table.{morphism_at}
use Rattle.mark_grade_search.proofs.Grades.{SearchedAbove}
use Rattle.mark_grade_search.proofs.highest_escape.Given as goal

abbrev pub invariant-loop-grade : goal.invariant-loop-grade
invariant-loop-grade l = SearchedAbove (morphism_at l.rule l.n l.k) l.first l.second l.above l.initial.scratch l.scratch

abbrev pub decreases-loop-grade : goal.decreases-loop-grade
decreases-loop-grade l = l.above

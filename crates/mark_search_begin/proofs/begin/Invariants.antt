use Rattle.theory.specs.Rules.{level}
use Rattle.scratch.specs.Map.{marks_from}
use Rattle.mark_search_begin.specs.Steps.{Begun}
use Rattle.mark_search_begin.proofs.begin.Given as goal

abbrev pub invariant-loop-e : goal.invariant-loop-e
invariant-loop-e l = Begun l.n l.s (level l.least (marks_from l.initial.scratch l.first)) l.e l.initial.scratch l.scratch l.count

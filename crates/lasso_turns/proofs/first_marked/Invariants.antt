-- The loop looks at the cuts one after the other and ends at the first that shows a mark, or after all cuts. Assumes nothing.
use Rattle.lasso_turns.proofs.Searching.{CutLooked}
use Rattle.lasso_turns.proofs.first_marked.Given as goal

abbrev pub invariant-loop-j : goal.invariant-loop-j
invariant-loop-j l = CutLooked l.rule l.n l.k l.scratch l.s l.len 0 l.j

-- The loop looks at the cuts one after the other, from the first that shows a mark on, and keeps the highest mark; it ends where that is
-- the highest of all marks, or after all cuts. Assumes nothing.
use Rattle.lasso_turns.proofs.Searching.{CutLooked}
use Rattle.lasso_turns.proofs.highest_from.Given as goal

abbrev pub invariant-loop-j : goal.invariant-loop-j
invariant-loop-j l = CutLooked l.rule l.n l.k l.scratch l.s l.len l.high l.j

-- The loop looks at the pairs (p·e·r^j, e) one after the other, until they come again, and keeps the highest mark. Assumes nothing.
use Rattle.scratch.specs.Map.{marks_from}
use Rattle.lasso_powers.proofs.Turning.{Looking}
use Rattle.lasso_powers.proofs.powers_highest.Given as goal

abbrev pub invariant-loop-j : goal.invariant-loop-j
invariant-loop-j l = Looking l.rule l.n l.k (marks_from l.marks 0) l.p l.r l.e l.exponent l.before l.s l.high l.j

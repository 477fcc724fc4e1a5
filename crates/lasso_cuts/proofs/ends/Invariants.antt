-- The loop holds the value of the letters from place i on and has stored the values of the ends from there on; all other bytes
-- keep their values. Assumes nothing.
use Rattle.lasso_cuts.proofs.Tables.{EndsFrom}
use Rattle.lasso_cuts.proofs.ends.Given as goal

abbrev pub invariant-loop-i : goal.invariant-loop-i
invariant-loop-i l = EndsFrom l.rule l.n l.k l.w l.initial.scratch l.scratch l.base l.s l.i

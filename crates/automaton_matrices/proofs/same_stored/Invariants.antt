-- The loop holds that the first p rows agree. Assumes nothing.
use Rattle.automaton_matrices.proofs.Comparing.{RowsAgree}
use Rattle.automaton_matrices.proofs.same_stored.Given as goal

abbrev pub invariant-loop-p : goal.invariant-loop-p
invariant-loop-p l = RowsAgree l.scratch l.base l.i l.n l.m l.p

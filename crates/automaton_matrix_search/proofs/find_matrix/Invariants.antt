-- The loop holds that none of the first i matrices has the entries of m. Assumes nothing.
use Rattle.automaton_matrix_search.proofs.Finding.{Unfound}
use Rattle.automaton_matrix_search.proofs.find_matrix.Given as goal

abbrev pub invariant-loop-i : goal.invariant-loop-i
invariant-loop-i l = Unfound l.n l.scratch l.count l.m l.i

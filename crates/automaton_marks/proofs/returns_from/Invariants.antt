-- `automaton_marks::returns_from` meets its contract: the loop holds that none of the states so far passes. Assumes nothing.
use Rattle.buchi.proofs.MatrixTests.{returns_at}
use Rattle.automaton_matrix_search.specs.Lists.{matrix_at}
use Rattle.automaton_table.proofs.Tests.{NoneBelow}
use Rattle.automaton_marks.proofs.returns_from.Given as goal

abbrev pub invariant-loop-q : goal.invariant-loop-q
invariant-loop-q l = NoneBelow l.n (returns_at (matrix_at l.scratch l.s) (matrix_at l.scratch l.e) l.p) l.q

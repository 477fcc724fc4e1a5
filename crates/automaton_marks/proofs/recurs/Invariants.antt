-- `automaton_marks::recurs` meets its contract: the loop holds that none of the states so far passes. Assumes nothing.
use Rattle.buchi.proofs.MatrixTests.{returns_from}
use Rattle.automaton_matrix_search.specs.Lists.{matrix_at}
use Rattle.automaton_table.specs.Laying.{initial_states}
use Rattle.automaton_table.proofs.Tests.{NoneBelow}
use Rattle.automaton_marks.proofs.recurs.Given as goal

abbrev pub invariant-loop-p : goal.invariant-loop-p
invariant-loop-p l = NoneBelow l.n (returns_from (initial_states l.kinds l.n) (matrix_at l.scratch l.s) (matrix_at l.scratch l.e)) l.p

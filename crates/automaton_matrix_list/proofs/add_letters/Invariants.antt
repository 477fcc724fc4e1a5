-- The loop holds that the letters so far were followed from the empty word. Assumes nothing.
use Prim.Native.Nat.{◌≤◌}
use Rattle.automaton_matrix_search.specs.Steps.{Following}
use Rattle.automaton_matrix_list.proofs.add_letters.Given as goal

abbrev pub invariant-loop-letter : goal.invariant-loop-letter
invariant-loop-letter l = (l.letter ≤ l.k) × Following l.kinds l.n l.k l.initial.scratch 0 0 l.scratch l.total l.letter

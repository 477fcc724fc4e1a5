-- The loop holds that the letters so far were followed from the matrix at hand. Assumes nothing.
use Prim.Native.Nat.{◌+◌, ◌≤◌}
use Rattle.automaton_matrix_search.specs.Steps.{Multiplied}
use Rattle.automaton_matrix_list.proofs.add_products.Given as goal

abbrev pub invariant-loop-letter : goal.invariant-loop-letter
invariant-loop-letter l = (l.letter ≤ l.k) × Multiplied l.n l.k l.initial.scratch l.count (l.from + 1) l.scratch l.total l.letter

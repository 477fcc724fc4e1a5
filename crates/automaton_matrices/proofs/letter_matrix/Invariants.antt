-- The loop holds that the first p rows are those of the letter's matrix. Assumes nothing.
use Prim.Native.Nat.{◌≤◌}
use Rattle.automaton_matrices.specs.Bytes.{letter_entry}
use Rattle.automaton_products.proofs.Rows.{RowsOf}
use Rattle.automaton_matrices.proofs.letter_matrix.Given as goal

abbrev pub invariant-loop-p : goal.invariant-loop-p
invariant-loop-p l = (l.p ≤ l.n) × RowsOf (letter_entry l.kinds l.steps l.letter) l.p l.n l.out

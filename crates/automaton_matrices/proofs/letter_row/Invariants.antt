-- The loop holds that the first q entries of the row are those of the letter's matrix. Assumes nothing.
use Prim.Native.Nat.{◌≤◌}
use Rattle.automaton_products.specs.Arrays.{RowOf}
use Rattle.automaton_matrices.specs.Bytes.{letter_entry}
use Rattle.automaton_matrices.proofs.letter_row.Given as goal

abbrev pub invariant-loop-q : goal.invariant-loop-q
invariant-loop-q l = (l.q ≤ l.n) × RowOf (letter_entry l.kinds l.steps l.letter l.p) l.q l.row

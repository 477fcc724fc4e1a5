-- The loop holds that the first p rows are those of the product. Assumes nothing.
use Prim.Native.Nat.{◌≤◌}
use Rattle.buchi.specs.Matrices.{product}
use Rattle.automaton_products.specs.Arrays.{entry_in}
use Rattle.automaton_products.proofs.Rows.{RowsOf}
use Rattle.automaton_products.proofs.matrix_product.Given as goal

abbrev pub invariant-loop-p : goal.invariant-loop-p
invariant-loop-p l = (l.p ≤ l.n) × RowsOf (product l.n (entry_in l.left) (entry_in l.right)) l.p l.n l.out

-- The loop holds that the first p rows are read. Assumes nothing.
use Prim.Native.Nat.{◌≤◌}
use Rattle.automaton_matrices.specs.Bytes.{matrix_from}
use Rattle.automaton_products.proofs.Rows.{RowsOf}
use Rattle.automaton_matrices.proofs.load_matrix.Given as goal

abbrev pub invariant-loop-p : goal.invariant-loop-p
invariant-loop-p l = (l.p ≤ 6) × RowsOf (matrix_from l.scratch l.base l.i) l.p 6 l.row-items

-- The loop holds that the first p rows are written. Assumes nothing.
use Prim.Native.Nat.{◌≤◌}
use Rattle.automaton_matrices.specs.Bytes.{Stored}
use Rattle.automaton_matrices.proofs.store_matrix.Given as goal

abbrev pub invariant-loop-p : goal.invariant-loop-p
invariant-loop-p l = (l.p ≤ 6) × Stored l.initial.scratch l.scratch l.base l.i l.fn.m l.p

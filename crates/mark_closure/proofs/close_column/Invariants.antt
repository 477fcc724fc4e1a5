-- `mark_closure::close_column` meets its contract: the bytes of the elements that were passed have changed. Assumes nothing.
use Prim.Native.Nat.{◌≤◌}
use Rattle.formats.specs.Table.{morphism_at}
use Rattle.mark_closure.specs.Closing.{ColumnClosed}
use Rattle.mark_closure.proofs.close_column.Given as goal

abbrev pub invariant-loop-s : goal.invariant-loop-s
invariant-loop-s l = ColumnClosed (morphism_at l.rule l.n l.k) l.x l.e l.f l.s l.initial.scratch l.scratch × (l.s ≤ l.n)

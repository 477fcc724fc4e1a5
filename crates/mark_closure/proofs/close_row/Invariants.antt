-- `mark_closure::close_row` meets its contract: the factors y that were passed were tried with x. Assumes nothing.
use Prim.Native.Nat.{◌+◌, ◌*◌, ◌≤◌}
use Rattle.formats.specs.Table.{morphism_at}
use Rattle.mark_closure.specs.Closing.{ClosureAdvanced}
use Rattle.mark_closure.proofs.close_row.Given as goal

abbrev pub invariant-loop-y : goal.invariant-loop-y
invariant-loop-y l = ClosureAdvanced (morphism_at l.rule l.n l.k) (l.x * l.n + l.y) l.initial.scratch l.scratch × (l.y ≤ l.n)

-- `mark_class_numbers::lower_row` meets its contract: the factors y that were passed were tried with x. Assumes nothing.
use Prim.Native.Nat.{◌+◌, ◌*◌, ◌≤◌}
use Rattle.formats.specs.Table.{morphism_at}
use Rattle.mark_class_numbers.specs.Cells.{CellAdvanced}
use Rattle.mark_class_numbers.proofs.lower_row.Given as goal

abbrev pub invariant-loop-y : goal.invariant-loop-y
invariant-loop-y l = CellAdvanced (morphism_at l.rule l.n l.k) (l.x * l.n + l.y) l.initial.out l.out × (l.y ≤ l.n)

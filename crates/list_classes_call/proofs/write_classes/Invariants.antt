-- `list_classes_call::write_classes` meets its contract: once every x was passed, each number is the least over all factors. Assumes nothing.
use Prim.Native.Nat.{◌*◌, ◌≤◌}
use Rattle.formats.specs.Table.{morphism_at}
use Rattle.mark_class_numbers.specs.Cells.{CellAdvanced}
use Rattle.list_classes_call.proofs.write_classes.Given as goal

abbrev pub invariant-loop-x : goal.invariant-loop-x
invariant-loop-x l = CellAdvanced (morphism_at l.rule l.n l.k) (l.x * l.n) l.initial.out l.out × (l.x ≤ l.n)

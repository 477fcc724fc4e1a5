-- `list_classes_call::count` meets its contract: the counts are those of the numbers that were passed. Assumes nothing.
use Prim.Native.Nat.{◌≤◌}
use Rattle.mark_class_numbers.specs.Cells.{CellCounts}
use Rattle.list_classes_call.proofs.count.Given as goal

abbrev pub invariant-loop-i : goal.invariant-loop-i
invariant-loop-i l = CellCounts l.out l.i l.linked l.classes × (l.i ≤ l.pairs)

-- `list_classes_call::count` meets its contract: the counts are those of the numbers that were passed. Assumes nothing.
use Prim.Native.Nat.{ℕ, ◌+◌, ◌≤◌}
use mathlib.Core.Path.{◌≡◌, sym, subst, subst₂}
use native.Mathlib.Omega.{arith}
use Rattle.mark_class_numbers.specs.Cells.{CellCounts}
use Rattle.list_classes_call.proofs.Counting.{counts_none, counts_own, counts_linked, counts_other, counted_le}
use Rattle.list_classes_call.proofs.count.Goals as goal
use Rattle.list_classes_call.proofs.count.Goals.{then-number-ne-NO_CLASS+then-number-i, then-number-ne-NO_CLASS+else-number-i, else-number-ne-NO_CLASS}

pub loop-i-init : goal.loop-i-init
loop-i-init c = (counts_none _, omega arith)

pub overflow_add-linked : goal.overflow_add-linked
overflow_add-linked c = omega (arith, counted_le c.loop-i.invariant.0.linked_cells)

pub overflow_add-classes : goal.overflow_add-classes
overflow_add-classes c = omega (arith, counted_le c.loop-i.invariant.0.own_cells)

pub loop-i-preserved : goal.loop-i-preserved
loop-i-preserved c =
    let known = c.loop-i.invariant.0 in
    let read = c.load-number.ensures in
    let small : c.loop-i.i + 1 ≤ 4096 = omega arith in (
      elim c.if-number-ne-NO_CLASS.branch [
        | then-number-ne-NO_CLASS+then-number-i w ↦ subst₂ (CellCounts _ _) (sym w.linked-is) (sym w.classes-is) (counts_own known read w.if-number-ne-NO_CLASS.true w.if-number-i.true)
        | then-number-ne-NO_CLASS+else-number-i w ↦ subst₂ (CellCounts _ _) (sym w.linked-is) (sym w.classes-is) (counts_linked known read w.if-number-ne-NO_CLASS.true w.if-number-i.false)
        | else-number-ne-NO_CLASS w ↦ subst₂ (CellCounts _ _) (sym w.linked-is) (sym w.classes-is) (counts_other known read (omega arith) w.if-number-ne-NO_CLASS.false)
      ],
      omega arith,
    )

pub returns : goal.returns
returns c =
    let a = c.args in
    let q : c.loop-i.i ≡ a.pairs = omega arith in
    subst (λ (i : ℕ). CellCounts a.out.now i c.loop-i.linked c.loop-i.classes) q c.loop-i.invariant.0

-- `mark_complement_marks::complement_byte` meets its contract: each way through the tests is one of its cases. Assumes nothing.
use mathlib.Core.Path.{refl, ap}
use native.Mathlib.Omega.{arith}
use Rattle.rule_marks.proofs.MarkOrder.{said_linked, said_unlinked}
use Rattle.mark_complement_marks.proofs.Turned.{turned_unlinked, turned_linked}
use mathlib.Core.Bool.{not}
use Rattle.mark_complement_marks.proofs.complement_byte.Goals as goal

pub returns-then-not-linked : goal.returns-then-not-linked
returns-then-not-linked c = turned_unlinked _ _ _ _ (said_unlinked _ _ _ c.linked.result c.linked.ensures (ap not c.if-not-linked.true))

pub returns-then-mark-ge-HIGHEST_GRADE : goal.returns-then-mark-ge-HIGHEST_GRADE
returns-then-mark-ge-HIGHEST_GRADE c =
    turned_linked _ _ _ _ (said_linked _ _ _ c.linked.result c.linked.ensures (ap not c.if-not-linked.false))
    (omega (arith, c.if-mark-ge-HIGHEST_GRADE.true))

pub overflow_sub-result : goal.overflow_sub-result
overflow_sub-result c = omega (arith, c.if-mark-ge-HIGHEST_GRADE.false)

pub returns : goal.returns
returns c =
    turned_linked _ _ _ _ (said_linked _ _ _ c.linked.result c.linked.ensures (ap not c.if-not-linked.false)) refl

-- `mark_class_numbers::first_number` meets its contract: a linked pair is conjugate to itself. Assumes nothing.
use Rattle.rule_table.proofs.Places.{row_fits, entry_fits}
use Rattle.rule_marks.proofs.MarkOrder.{said_linked, said_unlinked}
use Rattle.mark_class_numbers.proofs.Factors.{first_own, first_none}
use mathlib.Core.Bool.{not}
use mathlib.Core.Path.{ap}
use Rattle.mark_class_numbers.proofs.first_number.Goals as goal

pub returns-then-not-linked : goal.returns-then-not-linked
returns-then-not-linked c = first_none (said_unlinked _ _ _ c.linked.result c.linked.ensures (ap not c.if-not-linked.true))

pub overflow_mul-result : goal.overflow_mul-result
overflow_mul-result c = row_fits _ _ c.requires.s_lt_n.0 c.requires.table.small

pub overflow_add-result : goal.overflow_add-result
overflow_add-result c = entry_fits _ _ _ c.requires.s_lt_n.0 c.requires.s_lt_n.1 c.requires.table.small

pub returns : goal.returns
returns c = first_own c.requires.lawful (said_linked _ _ _ c.linked.result c.linked.ensures (ap not c.if-not-linked.false))

-- `automaton_marks::mark_byte` meets its contract: each way through the tests is one of its cases. Assumes nothing.
use Rattle.automaton_table.proofs.Marks.{pair_place, mark_unlinked, mark_other, mark_new}
use mathlib.Core.Bool.{not}
use mathlib.Core.Path.{ap}
use Rattle.automaton_marks.proofs.mark_byte.Goals as goal

pub returns-then-not-laid_linked : goal.returns-then-not-laid_linked
returns-then-not-laid_linked c = mark_unlinked _ _ _ _ _ _ c.laid_linked.result c.laid_linked.ensures (ap not c.if-not-laid_linked.true)

pub recurs-requires : goal.recurs-requires
recurs-requires c = pair_place c.requires.mark_needs c.requires.s_lt_count.0 c.requires.s_lt_count.1

pub returns-then-not-recurs : goal.returns-then-not-recurs
returns-then-not-recurs c = mark_other _ _ _ _ _ _ c.laid_linked.result c.laid_linked.ensures c.recurs.ensures (ap not c.if-not-laid_linked.false) (ap not c.if-not-recurs.true)

pub returns : goal.returns
returns c = mark_new _ _ _ _ _ _ c.laid_linked.result c.laid_linked.ensures c.recurs.ensures (ap not c.if-not-laid_linked.false) (ap not c.if-not-recurs.false)

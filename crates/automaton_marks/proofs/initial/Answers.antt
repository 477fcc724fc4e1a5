-- `automaton_marks::initial` meets its contract: each way through the tests is one of its cases. Assumes nothing.
use Rattle.automaton_table.proofs.Tests.{kind_initial, kind_both, kind_other}
use Rattle.automaton_marks.proofs.initial.Goals as goal

pub returns-then-kinds-p-eq1 : goal.returns-then-kinds-p-eq1
returns-then-kinds-p-eq1 c = kind_initial _ _ c.if-kinds-p-eq1.true

pub returns-then-kinds-p-eq3 : goal.returns-then-kinds-p-eq3
returns-then-kinds-p-eq3 c = kind_both _ _ c.if-kinds-p-eq3.true

pub returns : goal.returns
returns c = kind_other _ _ c.if-kinds-p-eq1.false c.if-kinds-p-eq3.false

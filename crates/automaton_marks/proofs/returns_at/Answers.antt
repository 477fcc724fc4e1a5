-- `automaton_marks::returns_at` meets its contract: each way through the tests is one of its cases. Assumes nothing.
use Rattle.automaton_table.proofs.Tests.{entry_none, entry_returns, entry_other}
use Rattle.automaton_marks.proofs.returns_at.Goals as goal

pub returns-then-scratch-s-eq0 : goal.returns-then-scratch-s-eq0
returns-then-scratch-s-eq0 c = entry_none _ _ _ _ _ c.if-scratch-s-eq0.true

pub returns-then-scratch-e-eq2 : goal.returns-then-scratch-e-eq2
returns-then-scratch-e-eq2 c = entry_returns _ _ _ _ _ c.if-scratch-s-eq0.false c.if-scratch-e-eq2.true

pub returns : goal.returns
returns c = entry_other _ _ _ _ _ c.if-scratch-s-eq0.false c.if-scratch-e-eq2.false

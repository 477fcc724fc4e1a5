-- `automaton_marks::recurs` meets its contract: the loop holds that none of the states so far passes. Assumes nothing.
use Rattle.automaton_table.proofs.Tests.{none_start, none_more, one_found, none_all, recurs_is}
use Rattle.automaton_marks.proofs.recurs.Goals as goal

pub loop-p-init : goal.loop-p-init
loop-p-init c = none_start

pub returns-then-returns_from : goal.returns-then-returns_from
returns-then-returns_from c = recurs_is _ _ _ _ (one_found c.loop-p.invariant c.loop-p-test.true c.returns_from.ensures c.if-returns_from.true)

pub loop-p-preserved : goal.loop-p-preserved
loop-p-preserved c = none_more c.loop-p.invariant c.loop-p-test.true c.returns_from.ensures c.if-returns_from.false

pub returns : goal.returns
returns c = recurs_is _ _ _ _ (none_all c.loop-p.invariant c.loop-p-test.false)

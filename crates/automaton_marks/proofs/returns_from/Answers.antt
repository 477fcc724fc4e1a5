-- `automaton_marks::returns_from` meets its contract: the loop holds that none of the states so far passes. Assumes nothing.
use Rattle.automaton_table.proofs.Tests.{none_start, none_more, one_found, none_all, from_not_initial, from_initial}
use mathlib.Core.Bool.{not}
use mathlib.Core.Path.{ap}
use Rattle.automaton_marks.proofs.returns_from.Goals as goal

pub returns-then-not-initial : goal.returns-then-not-initial
returns-then-not-initial c = from_not_initial _ _ _ _ _ c.initial.ensures (ap not c.if-not-initial.true)

pub loop-q-init : goal.loop-q-init
loop-q-init c = none_start

pub returns-then-returns_at : goal.returns-then-returns_at
returns-then-returns_at c = from_initial _ _ _ _ _ c.initial.ensures (ap not c.if-not-initial.false) (one_found c.loop-q.invariant c.loop-q-test.true c.returns_at.ensures c.if-returns_at.true)

pub loop-q-preserved : goal.loop-q-preserved
loop-q-preserved c = none_more c.loop-q.invariant c.loop-q-test.true c.returns_at.ensures c.if-returns_at.false

pub returns : goal.returns
returns c = from_initial _ _ _ _ _ c.initial.ensures (ap not c.if-not-initial.false) (none_all c.loop-q.invariant c.loop-q-test.false)

-- `two_rules::decide_both` meets its contract: the first is decided, the tables are moved, the second is decided. Assumes nothing.
use borrow.Author.Tests.{not-true, not-false}
use Rattle.two_rules.proofs.Deciding.{first_weak, second_needs, second_weak, both_strong}
use mathlib.Core.Bool.{not}
use mathlib.Core.Path.{ap}
use Rattle.two_rules.proofs.decide_both.Goals as goal

pub returns-then-not-decide : goal.returns-then-not-decide
returns-then-not-decide c = first_weak _ c.decide.ensures (not-true _ (ap not c.if-not-decide.true))

pub decide-requires-2 : goal.decide-requires-2
decide-requires-2 c = record {
  table = c.requires.table_2;
  decide_needs = second_needs _ c.decide.ensures c.move_tables.ensures c.requires.table_2.small c.requires.decide_needs_2;
}

pub returns-then-not-decide-2 : goal.returns-then-not-decide-2
returns-then-not-decide-2 c =
    second_weak _ c.decide.ensures c.move_tables.ensures c.requires.table_2.small (not-false _ (ap not c.if-not-decide.false)) c.decide-2.ensures (not-true _ (ap not c.if-not-decide-2.true))

pub returns : goal.returns
returns c =
    both_strong _ c.decide.ensures c.move_tables.ensures c.requires.table_2.small (not-false _ (ap not c.if-not-decide.false)) c.decide-2.ensures c.requires.table.small (not-false _ (ap not c.if-not-decide-2.false))

-- `mark_moves::cycle_agrees` meets its contract: no idempotent, one that is not the first of its left class, or the first. Assumes nothing.
use mathlib.Core.Path.{sym, ◌∙◌}
use Rattle.rule_table.proofs.Facts.{table_place}
use Rattle.mark_moves.proofs.Agreeing.{answer_yes, answer_more, cycle_none, cycle_later, cycle_first, first_same}
use Rattle.mark_moves.proofs.cycle_agrees.Goals as goal

pub product-square-requires : goal.product-square-requires
product-square-requires c =
    table_place c.requires.table c.requires.e_lt_n c.requires.e_lt_n

pub returns-then-square-e : goal.returns-then-square-e
returns-then-square-e c = answer_yes (cycle_none (λ q. c.if-square-e.true (c.product-square.ensures ∙ q)))

pub first_left-first-requires : goal.first_left-first-requires
first_left-first-requires c = record {
  table = c.requires.table;
  lawful = c.requires.move_needs.lawful;
  idempotent = record { inside = c.requires.e_lt_n; square = sym c.product-square.ensures ∙ c.if-square-e.false };
}

pub columns_agree-requires : goal.columns_agree-requires
columns_agree-requires c = record {
  table = c.requires.table;
  move_needs = c.requires.move_needs;
  left_equivalent = first_same (record { inside = c.requires.e_lt_n; square = sym c.product-square.ensures ∙ c.if-square-e.false }) c.first_left-first.ensures;
}

pub returns-then-first-e : goal.returns-then-first-e
returns-then-first-e c = answer_more (cycle_later c.first_left-first.ensures c.if-first-e.true) c.columns_agree.ensures

pub letters_agree-requires : goal.letters_agree-requires
letters_agree-requires c = record {
  table = c.requires.table;
  move_needs = c.requires.move_needs;
  idempotent = record { inside = c.requires.e_lt_n; square = sym c.product-square.ensures ∙ c.if-square-e.false };
}

pub returns : goal.returns
returns c = answer_more (cycle_first c.first_left-first.ensures c.if-first-e.false) c.letters_agree.ensures

-- `mark_raising::raise_cycle` meets its contract: no idempotent, the first of its left class, or another. Assumes nothing.
use mathlib.Core.Path.{sym, ◌∙◌}
use Rattle.theory.specs.Pairs.{Idempotent}
use Rattle.conjugacy_moves.proofs.Returns.{same_left_sym}
use Rattle.formats.specs.Table.{morphism_at}
use Rattle.rule_table.proofs.Facts.{table_place}
use Rattle.mark_moves.proofs.Agreeing.{first_same}
use Rattle.mark_raising.proofs.Raising.{raise_not, raise_known, raise_both, left_move, cycle_none, cycle_first, cycle_later}
use Rattle.mark_raising.proofs.raise_cycle.Goals as goal

-- e is idempotent
idempotent : (c : goal.Else-square-e) → Idempotent (morphism_at c.args.rule.now c.args.n c.args.k) c.args.e
idempotent c = record { inside = c.requires.e_lt_n; square = sym c.product-square.ensures ∙ c.if-square-e.false }

-- e is idempotent
idempotent-2 : (c : goal.After-raise_letters-arg-1) → Idempotent (morphism_at c.args.rule.now c.args.n c.args.k) c.args.e
idempotent-2 c = record { inside = c.requires.e_lt_n; square = sym c.product-square.ensures ∙ c.if-square-e.false }

-- e is idempotent
idempotent-3 : (c : goal.After-raise_move-arg-1) → Idempotent (morphism_at c.args.rule.now c.args.n c.args.k) c.args.e
idempotent-3 c = record { inside = c.requires.e_lt_n; square = sym c.product-square.ensures ∙ c.if-square-e.false }

-- e is idempotent
idempotent-4 : (c : goal.After-raise_move-arg-2-1) → Idempotent (morphism_at c.args.rule.now c.args.n c.args.k) c.args.e
idempotent-4 c = record { inside = c.requires.e_lt_n; square = sym c.product-square.ensures ∙ c.if-square-e.false }

pub product-square-requires : goal.product-square-requires
product-square-requires c =
    table_place c.requires.table c.requires.e_lt_n c.requires.e_lt_n

pub returns-then-square-e : goal.returns-then-square-e
returns-then-square-e c = raise_not c.requires.raised (cycle_none (λ q. c.if-square-e.true (c.product-square.ensures ∙ q)))

pub first_left-first-requires : goal.first_left-first-requires
first_left-first-requires c = record {
  table = c.requires.table;
  lawful = c.requires.lawful;
  idempotent = idempotent c;
}

pub raise_letters-requires : goal.raise_letters-requires
raise_letters-requires c = record {
  table = c.requires.table;
  lawful = c.requires.lawful;
  raised = c.requires.raised;
  idempotent = idempotent-2 c;
}

pub returns-then-first-e : goal.returns-then-first-e
returns-then-first-e c =
    raise_known (cycle_first c.first_left-first.ensures c.if-first-e.true) c.raise_letters.ensures

pub raise_move-more-requires : goal.raise_move-more-requires
raise_move-more-requires c = record {
  table = c.requires.table;
  lawful = c.requires.lawful;
  raised = c.requires.raised;
  move_to = left_move (first_same (idempotent-3 c) c.first_left-first.ensures);
}

pub raise_move-requires : goal.raise_move-requires
raise_move-requires c = record {
  table = c.requires.table;
  lawful = c.requires.lawful;
  raised = c.raise_move-more.ensures.raised;
  move_to = left_move (same_left_sym (first_same (idempotent-4 c) c.first_left-first.ensures));
}

pub returns : goal.returns
returns c =
    raise_both c.raise_move-more.ensures c.raise_move.ensures (cycle_later c.first_left-first.ensures c.if-first-e.false)

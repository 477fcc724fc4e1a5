-- `mark_moves::letter_agrees` meets its contract: a move that stays, none, or one whose marks are compared. Assumes nothing.
use mathlib.Core.Path.{sym, ◌∙◌}
use Rattle.std.proofs.lemmas.Option.{MatchOption-at_none, MatchOption-at_some}
use Rattle.formats.specs.Table.{morphism_at}
use Rattle.mark_moves.specs.Agreeing.{MoveTo}
use Rattle.mark_moves.proofs.Agreeing.{answer_yes, answer_more, first_way_move, letter_stays, letter_none, letter_moves}
use Rattle.mark_moves.proofs.letter_agrees.Goals as goal

-- the move
moves : (c : goal.After-product-f) → MoveTo (morphism_at c.args.rule.now c.args.n c.args.k) c.args.e c.args.g c.product-f.result
moves c =
    record {
      idempotent = c.requires.idempotent.0;
      by_inside = c.requires.idempotent.1;
      step = first_way_move c.product-y.ensures (MatchOption-at_some _ _ _ c.in-Some.is c.first_way.ensures) c.product-f.ensures;
    }

-- the move
moves-2 : (c : goal.After-move_agrees) → MoveTo (morphism_at c.args.rule.now c.args.n c.args.k) c.args.e c.args.g c.product-f.result
moves-2 c =
    record {
      idempotent = c.requires.idempotent.0;
      by_inside = c.requires.idempotent.1;
      step = first_way_move c.product-y.ensures (MatchOption-at_some _ _ _ c.in-Some.is c.first_way.ensures) c.product-f.ensures;
    }

pub returns-then-y-e : goal.returns-then-y-e
returns-then-y-e c =
    answer_yes (letter_stays c.requires.move_needs.lawful c.requires.idempotent.0 c.requires.idempotent.1 (sym c.product-y.ensures ∙ c.if-y-e.true))

pub returns-in_default : goal.returns-in_default
returns-in_default c = answer_yes (letter_none c.product-y.ensures (MatchOption-at_none _ _ c.in_default.is c.first_way.ensures))

pub move_agrees-requires-clause-move_to : goal.move_agrees-requires-clause-move_to
move_agrees-requires-clause-move_to c = moves c

pub returns : goal.returns
returns c = answer_more (letter_moves (moves-2 c).step) c.move_agrees.ensures

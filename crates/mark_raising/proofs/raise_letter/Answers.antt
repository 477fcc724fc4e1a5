-- `mark_raising::raise_letter` meets its contract: a move that stays, none, or one along which marks are raised. Assumes nothing.
use mathlib.Core.Path.{sym, ◌∙◌}
use Rattle.std.proofs.lemmas.Option.{MatchOption-at_some}
use Rattle.formats.specs.Table.{morphism_at}
use Rattle.mark_moves.specs.Agreeing.{MoveTo}
use Rattle.mark_moves.proofs.Agreeing.{first_way_move}
use Rattle.mark_raising.proofs.Raising.{raise_not, raise_known, letter_stays, letter_moves}
use Rattle.mark_raising.proofs.raise_letter.Goals as goal

-- the move
moves : (c : goal.After-raise_move-arg-1) → MoveTo (morphism_at c.args.rule.now c.args.n c.args.k) c.args.e c.args.g c.product-f.result
moves c =
    record {
      idempotent = c.requires.idempotent.0;
      by_inside = c.requires.idempotent.1;
      step = first_way_move c.product-y.ensures (MatchOption-at_some _ _ _ c.in-Some.is c.first_way.ensures) c.product-f.ensures;
    }

-- the move
moves-2 : (c : goal.After-slice_known-2-1) → MoveTo (morphism_at c.args.rule.now c.args.n c.args.k) c.args.e c.args.g c.product-f.result
moves-2 c =
    record {
      idempotent = c.requires.idempotent.0;
      by_inside = c.requires.idempotent.1;
      step = first_way_move c.product-y.ensures (MatchOption-at_some _ _ _ c.in-Some.is c.first_way.ensures) c.product-f.ensures;
    }

pub returns-then-y-e : goal.returns-then-y-e
returns-then-y-e c =
    raise_not c.requires.raised (letter_stays c.requires.lawful c.requires.idempotent.0 c.requires.idempotent.1 (sym c.product-y.ensures ∙ c.if-y-e.true))

pub raise_move-requires-clause-move_to : goal.raise_move-requires-clause-move_to
raise_move-requires-clause-move_to c = moves c

pub returns : goal.returns
returns c = raise_known (letter_moves (moves-2 c).step) c.raise_move.ensures

-- `mark_raising::raise_along_moves` meets its contract: each round keeps what is so of the marks, and one that raises none settles them. Assumes nothing.
use borrow.Author.Tests.{not-true}
use Rattle.mark_raising.proofs.Tables.{kept_none, kept_both}
use Rattle.mark_raising.proofs.Settled.{rounds_settled, rounds_out}
use mathlib.Core.Bool.{not}
use mathlib.Core.Path.{ap}
use Rattle.mark_raising.proofs.raise_along_moves.Goals as goal

pub loop-round-init : goal.loop-round-init
loop-round-init c = (kept_none _ _, c.requires.raised)

pub raise_round-raised-requires : goal.raise_round-raised-requires
raise_round-raised-requires c = record {
  table = c.requires.table;
  lawful = c.requires.lawful;
  raised = c.loop-round.invariant.1;
}

pub shape_of-scratch-then-not-raised : goal.shape_of-scratch-then-not-raised
shape_of-scratch-then-not-raised c = ((rounds_settled c.requires.lawful c.requires.all_reached c.loop-round.invariant.0 c.raise_round-raised.ensures (not-true _ (ap not c.if-not-raised.true)))).kept.same_length

pub returns-then-not-raised : goal.returns-then-not-raised
returns-then-not-raised c =
    rounds_settled c.requires.lawful c.requires.all_reached c.loop-round.invariant.0 c.raise_round-raised.ensures (not-true _ (ap not c.if-not-raised.true))

pub loop-round-preserved : goal.loop-round-preserved
loop-round-preserved c =
    (kept_both c.loop-round.invariant.0 c.raise_round-raised.ensures.kept, c.raise_round-raised.ensures.raised)

pub shape_of-scratch : goal.shape_of-scratch
shape_of-scratch c = c.loop-round.invariant.0.same_length

pub returns : goal.returns
returns c = rounds_out c.loop-round.invariant.0 c.loop-round.invariant.1

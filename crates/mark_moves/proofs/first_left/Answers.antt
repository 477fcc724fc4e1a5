-- `mark_moves::first_left` meets its contract: none of the elements that were passed is an idempotent of the left class. Assumes nothing.
use native.Mathlib.Omega.{arith}
use Rattle.finite.proofs.Each.{each_none, each_more}
use Rattle.conjugacy_moves.proofs.Returns.{same_left_refl}
use Rattle.mark_moves.proofs.Agreeing.{first_is}
use Rattle.mark_moves.proofs.first_left.Goals as goal

pub loop-f-init : goal.loop-f-init
loop-f-init c = each_none

pub same_left-same-requires : goal.same_left-same-requires
same_left-same-requires c = record {
  table = c.requires.table;
  lawful = c.requires.lawful;
  idempotent = (c.requires.idempotent, omega (arith, c.requires.idempotent.inside, c.loop-f-test.true));
}

pub returns-then-same : goal.returns-then-same
returns-then-same c =
    first_is (c.same_left-same.ensures.holds c.if-same.true) c.loop-f.invariant

pub loop-f-preserved : goal.loop-f-preserved
loop-f-preserved c = each_more c.loop-f.invariant (c.same_left-same.ensures.fails c.if-same.false)

pub returns : goal.returns
returns c =
    first_is (same_left_refl c.requires.idempotent) (record { each = λ i h. c.loop-f.invariant.each i (omega (arith, c.loop-f-test.false)) })

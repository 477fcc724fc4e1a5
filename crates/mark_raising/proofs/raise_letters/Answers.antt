-- `mark_raising::raise_letters` meets its contract: marks are raised along the moves of the letters that were passed. Assumes nothing.
use Prim.Native.Nat.{ℕ}
use mathlib.Core.Path.{subst}
use native.Mathlib.Omega.{arith}
use Rattle.formats.specs.Table.{morphism_at}
use Rattle.formats.proofs.Tables.{image_below}
use Rattle.rule_table.proofs.Facts.{image_place}
use Rattle.mark_raising.specs.Raising.{LetterSettled}
use Rattle.mark_raising.proofs.Raising.{pass_none, pass_more, raise_known}
use Rattle.mark_raising.proofs.raise_letters.Goals as goal

pub loop-a-init : goal.loop-a-init
loop-a-init c = (pass_none c.requires.raised, omega arith)

pub image-g-requires : goal.image-g-requires
image-g-requires c = image_place c.requires.table c.loop-a-test.true

pub raise_letter-more-requires : goal.raise_letter-more-requires
raise_letter-more-requires c = record {
  table = c.requires.table;
  lawful = c.requires.lawful;
  raised = c.loop-a.invariant.0.raised;
  idempotent = (c.requires.idempotent, image_below c.requires.table c.loop-a-test.true c.image-g.ensures);
}

pub loop-a-preserved : goal.loop-a-preserved
loop-a-preserved c =
    let a = c.args in
    let m = morphism_at a.rule.now a.n a.k in (
      pass_more c.loop-a.invariant.0
          (raise_known (λ p. subst (λ (g : ℕ). LetterSettled m a.e g c.loop-a.scratch) c.image-g.ensures p) c.raise_letter-more.ensures),
      omega arith,
    )

pub shape_of-scratch : goal.shape_of-scratch
shape_of-scratch c = c.loop-a.invariant.0.kept.same_length

pub returns : goal.returns
returns c = raise_known (λ w. record { letters = record { each = λ a h. w.each a (omega (arith, c.loop-a-test.false)) } }) c.loop-a.invariant.0

-- `mark_moves::letters_agree` meets its contract: the letters that were passed agree. Assumes nothing.
use Prim.Native.Nat.{ℕ}
use native.Mathlib.Omega.{arith}
use mathlib.Core.Path.{subst, ap}
use Rattle.formats.specs.Table.{morphism_at}
use Rattle.formats.proofs.Tables.{image_below}
use Rattle.finite.proofs.Each.{each_none}
use Rattle.rule_table.proofs.Facts.{image_place}
use Rattle.scratch.specs.Map.{marks_from}
use Rattle.mark_moves.specs.Agreeing.{AgreeAnswer, LetterAgrees}
use Rattle.mark_moves.proofs.Agreeing.{answer_yes, pass_more, pass_ends}
use mathlib.Core.Bool.{not}
use Rattle.mark_moves.proofs.letters_agree.Goals as goal

pub loop-a-init : goal.loop-a-init
loop-a-init c = each_none

pub image-g-requires : goal.image-g-requires
image-g-requires c = image_place c.requires.table c.loop-a-test.true

pub letter_agrees-agrees-requires : goal.letter_agrees-agrees-requires
letter_agrees-agrees-requires c = record {
  table = c.requires.table;
  move_needs = c.requires.move_needs;
  idempotent = (c.requires.idempotent, image_below c.requires.table c.loop-a-test.true c.image-g.ensures);
}

pub returns-then-not-agrees : goal.returns-then-not-agrees
returns-then-not-agrees c = pass_ends c.letter_agrees-agrees.ensures (ap not c.if-not-agrees.true)

pub loop-a-preserved : goal.loop-a-preserved
loop-a-preserved c =
    let a = c.args in
    let m = morphism_at a.rule.now a.n a.k in
    let marks = marks_from a.scratch.now 0 in
    pass_more c.loop-a.invariant
    (subst (λ (g : ℕ). AgreeAnswer m marks (LetterAgrees m marks a.e g) c.letter_agrees-agrees.result) c.image-g.ensures c.letter_agrees-agrees.ensures) (ap not c.if-not-agrees.false)

pub returns : goal.returns
returns c = answer_yes (record { same = record { each = λ a h. c.loop-a.invariant.each a (omega (arith, c.loop-a-test.false)) } })

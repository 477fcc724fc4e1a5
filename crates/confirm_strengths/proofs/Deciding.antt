-- What is answered of two checked files, from what the verdicts on their strengths and the questions about the map promise. Assumes nothing.
use Prim.Native.Nat.{ℕ}
use mathlib.Core.Path.{◌≡◌, ◌∙◌}
use mathlib.Core.Bool.{Bool, true, false}
use mathlib.Core.List.{List}
use Rattle.answer.specs.declared.Refusal.TheVariants.{NotStrong}
use Rattle.formats.specs.Table.{morphism_at}
use Rattle.rule_layout.specs.declared.Shape.{Shape}
use Rattle.two_rules.specs.declared.Strengths.{Strengths}
use Rattle.two_rules.specs.declared.Strengths.TheVariants.{Strong, FirstWeak, SecondWeak}
use Rattle.two_rules.specs.Deciding.{BothDecided, StrongFiles}
use Rattle.two_rules.proofs.Calling.{first_file_weak, second_file_weak, strong_files}
use Rattle.promises.specs.declared.Confirmation.TheVariants.{Yes, No, Refused}
use Rattle.promises.proofs.ConfirmOrder.{weak_fails, strong_passes}
use Rattle.promises.proofs.NotConfirmed.{second_not_strong}
use Rattle.confirm_reduction.specs.Judging.{MapJudged}
use Rattle.confirm_strengths.specs.Steps.{FilesReady, CheckedPromise}

module _ {first second : List ℕ} {one two : Shape} {scratch : List ℕ} (r : FilesReady first second one two scratch) {decided : List ℕ} (answer : Strengths)
    (d : BothDecided (morphism_at first one.elements one.letters) (morphism_at second two.elements two.letters) scratch decided answer) where
  -- the first is weak, whatever the map is
  pub first_weak : {map : List ℕ} → answer ≡ FirstWeak → CheckedPromise first second map scratch decided (Refused NotStrong 1 0)
  first_weak e = record {
    refusal = weak_fails first (first_file_weak first second r.entry r.checked d e);
    answered = tt;
    same_length = d.same_length;
  }

  -- the second is, so that it is not the smallest rule, which is strong
  pub second_weak : {map : List ℕ} → answer ≡ SecondWeak → CheckedPromise first second map scratch decided No
  second_weak e =
      let w = second_file_weak first second r.entry r.checked d e in
      record {
        refusal = strong_passes first w.first_strong;
        answered = second_not_strong w.second_weak;
        same_length = d.same_length;
      }

  -- both are strong
  module _ (e : answer ≡ Strong) where
    pub strong_place : StrongFiles first second one two decided
    strong_place = strong_files first second r.entry r.checked d e

    module _ {map exit : List ℕ} {reduced : Bool} (j : MapJudged first second map decided exit reduced) where
      pub said_yes : reduced ≡ true → CheckedPromise first second map scratch exit Yes
      said_yes q = record {
        refusal = strong_passes first strong_place.strong.first_strong;
        answered = j.tells.holds q;
        same_length = j.same_length ∙ d.same_length;
      }

      pub said_no : reduced ≡ false → CheckedPromise first second map scratch exit No
      said_no q = record {
        refusal = strong_passes first strong_place.strong.first_strong;
        answered = j.tells.fails q;
        same_length = j.same_length ∙ d.same_length;
      }

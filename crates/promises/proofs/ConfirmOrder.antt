-- The order of the checks of `confirm`: "Both files meet the usual checks, first to second; then 12 for the first rule, before any no" (document 02,
-- Job 13). Assumes nothing.
use Prim.Native.Nat.{ℕ}
use mathlib.Core.Path.{◌≡◌, refl}
use mathlib.Core.List.{List, [], ◌∷◌}
use Rattle.answer.specs.declared.Refusal.{Refusal}
use Rattle.answer.specs.declared.Refusal.TheVariants.{NotStrong}
use Rattle.answer.specs.Checks.{passed, refused, FirstFailure}
use Rattle.answer.proofs.Order.{first_passes, first_fails, none_left, passed_before, refused_before, one_verdict}
use Rattle.theory.specs.Grades.{StrongMarking}
use Rattle.formats.specs.RuleFile.{morphism_of, marking_of}
use Rattle.formats.specs.RuleChecks.{rule_checks}
use Rattle.formats.specs.Calls.{checked_checks}
use Rattle.promises.specs.declared.Confirmation.{Confirmation}
use Rattle.promises.specs.Weak.{weak_check}
use Rattle.promises.specs.Confirm.{confirm_checks, confirmation_verdict, ConfirmPromise}
use Rattle.promises.proofs.OneConfirmation.{confirm_single}

-- the check behind those of the files
module _ (first : List ℕ) where
  pub weak_fails : ¬ StrongMarking (morphism_of first) (marking_of first) → FirstFailure (weak_check 1 first ∷ []) (refused NotStrong 1 0)
  weak_fails f = first_fails (weak_check 1 first) (record { weak = f; is_place = refl })

  pub strong_passes : StrongMarking (morphism_of first) (marking_of first) → FirstFailure (weak_check 1 first ∷ []) passed
  strong_passes strong = first_passes (record { nowhere = λ place a. a.weak strong }) none_left

module _ (first second entry : List ℕ) where
  -- a refusal of the first file, whatever the second is
  pub first_file_first : (r : Refusal) (input place : ℕ) → FirstFailure (checked_checks 1 first entry) (refused r input place)
      → FirstFailure (confirm_checks first second entry) (refused r input place)
  first_file_first r input place p = refused_before (checked_checks 1 first entry) _ p

  module _ (first_passed : FirstFailure (checked_checks 1 first entry) passed) where
    -- one of the second, whether the first rule is strong or not
    pub second_file_next : (r : Refusal) (input place : ℕ) → FirstFailure (rule_checks 2 second) (refused r input place)
        → FirstFailure (confirm_checks first second entry) (refused r input place)
    second_file_next r input place p = passed_before (checked_checks 1 first entry) _ first_passed (refused_before (rule_checks 2 second) _ p)

    module _ (second_passed : FirstFailure (rule_checks 2 second) passed) where
      -- a weak first rule
      pub weak_last : ¬ StrongMarking (morphism_of first) (marking_of first) → FirstFailure (confirm_checks first second entry) (refused NotStrong 1 0)
      weak_last f = passed_before (checked_checks 1 first entry) _ first_passed (passed_before (rule_checks 2 second) _ second_passed (weak_fails first f))

      -- which is refused whatever the map is: it gets neither yes nor no
      pub weak_refused : ¬ StrongMarking (morphism_of first) (marking_of first) → {map exit : List ℕ} (answer : Confirmation)
          → ConfirmPromise first second map entry exit answer → confirmation_verdict answer ≡ refused NotStrong 1 0
      weak_refused f answer p = one_verdict (confirm_single first second entry) p.refusal (weak_last f)

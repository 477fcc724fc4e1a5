-- The order of the checks of a call that asks only for a strong rule, behind those of its own buffers: the rule's own, then 12. What they come to where
-- each is the first that fails, and where none does. Assumes nothing.
use Prim.Native.Nat.{ℕ}
use mathlib.Core.Path.{refl}
use mathlib.Core.List.{List, [], ◌∷◌, ◌++◌}
use Rattle.answer.specs.declared.Refusal.{Refusal}
use Rattle.answer.specs.declared.Refusal.TheVariants.{NotStrong}
use Rattle.answer.specs.Checks.{Check, passed, refused, FirstFailure}
use Rattle.answer.proofs.Order.{first_passes, first_fails, none_left, passed_before, refused_before}
use Rattle.theory.specs.Grades.{StrongMarking}
use Rattle.formats.specs.RuleFile.{morphism_of, marking_of}
use Rattle.formats.specs.Calls.{checked_checks}
use Rattle.promises.specs.Weak.{weak_check}

module _ (bytes scratch : List ℕ) where
  abbrev strength_checks : List Check
  strength_checks = checked_checks 1 bytes scratch ++ weak_check 1 bytes ∷ []

  -- a refusal of the file, whether its rule is strong or not
  pub refused_file : (r : Refusal) (input place : ℕ) → FirstFailure (checked_checks 1 bytes scratch) (refused r input place) → FirstFailure strength_checks (refused r input place)
  refused_file r input place p = refused_before (checked_checks 1 bytes scratch) (weak_check 1 bytes ∷ []) p

  module _ (passes : FirstFailure (checked_checks 1 bytes scratch) passed) where
    -- a weak rule
    pub refused_weak : ¬ StrongMarking (morphism_of bytes) (marking_of bytes) → FirstFailure strength_checks (refused NotStrong 1 0)
    refused_weak f = passed_before (checked_checks 1 bytes scratch) (weak_check 1 bytes ∷ []) passes (first_fails (weak_check 1 bytes) (record { weak = f; is_place = refl }))

    -- a strong one
    pub passed_strong : StrongMarking (morphism_of bytes) (marking_of bytes) → FirstFailure strength_checks passed
    passed_strong strong =
        passed_before (checked_checks 1 bytes scratch) (weak_check 1 bytes ∷ []) passes (first_passes (record { nowhere = λ place a. a.weak strong }) none_left)

-- The order of the checks of `next` behind that of out: the rule's own, then 12, then 23. What they come to where each is the first that fails, and where
-- none does. Assumes nothing.
use Prim.Native.Nat.{ℕ, ◌≤◌}
use mathlib.Core.Path.{refl}
use mathlib.Core.List.{List}
use lib.ListN.{length}
use Rattle.answer.specs.declared.Refusal.{Refusal}
use Rattle.answer.specs.declared.Refusal.TheVariants.{NotStrong, TooManyClasses}
use Rattle.answer.specs.Checks.{passed, refused, Passes, FirstFailure}
use Rattle.answer.proofs.Order.{first_passes, first_fails, none_left, refused_before, passed_before}
use Rattle.theory.specs.Grades.{StrongMarking}
use Rattle.temporal.specs.Nexts.{MoreNextClasses}
use Rattle.formats.specs.RuleFile.{morphism_of, marking_of}
use Rattle.formats.specs.RuleChecks.{rule_size}
use Rattle.formats.specs.Calls.{checked_checks}
use Rattle.formats.proofs.Buffers.{buffer_long}
use Rattle.promises.specs.Weak.{weak_check}
use Rattle.temporal_promises.specs.Next.{next_classes_check, next_own_checks, next_checks}

module _ (bytes out scratch : List ℕ) (out_long : rule_size ≤ length out) where
  -- a refusal of the file, whatever its rule
  pub file_first : (r : Refusal) (input place : ℕ) → FirstFailure (checked_checks 1 bytes scratch) (refused r input place) → FirstFailure (next_checks bytes out scratch) (refused r input place)
  file_first r input place p = buffer_long out_long (refused_before (checked_checks 1 bytes scratch) (next_own_checks bytes) p)

  module _ (passes : FirstFailure (checked_checks 1 bytes scratch) passed) where
    -- a weak rule, however many classes it has
    pub weak_next : ¬ StrongMarking (morphism_of bytes) (marking_of bytes) → FirstFailure (next_checks bytes out scratch) (refused NotStrong 1 0)
    weak_next f = buffer_long out_long (passed_before (checked_checks 1 bytes scratch) (next_own_checks bytes) passes (first_fails (weak_check 1 bytes) (record { weak = f; is_place = refl })))

    module _ (strong : StrongMarking (morphism_of bytes) (marking_of bytes)) where
      strong_passes : Passes (weak_check 1 bytes)
      strong_passes = record { nowhere = λ place a. a.weak strong }

      -- too many classes
      pub classes_last : MoreNextClasses (morphism_of bytes) 64 → FirstFailure (next_checks bytes out scratch) (refused TooManyClasses 1 0)
      classes_last more =
          buffer_long out_long (passed_before (checked_checks 1 bytes scratch) (next_own_checks bytes) passes
          (first_passes strong_passes (first_fails (next_classes_check bytes) (record { more = more; is_place = refl }))))

      pub none_fails : ¬ MoreNextClasses (morphism_of bytes) 64 → FirstFailure (next_checks bytes out scratch) passed
      none_fails f =
          buffer_long out_long (passed_before (checked_checks 1 bytes scratch) (next_own_checks bytes) passes
          (first_passes strong_passes (first_passes (record { nowhere = λ place a. f a.more }) none_left)))

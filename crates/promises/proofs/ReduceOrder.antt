-- The order of the checks of `reduce` behind those of the buffers: the rule's own, then 12. What they come to where each is the first that fails, and
-- where none does. Assumes nothing.
use Prim.Native.Nat.{ℕ, ◌≤◌}
use mathlib.Core.List.{List}
use lib.ListN.{length}
use Rattle.answer.specs.declared.Refusal.{Refusal}
use Rattle.answer.specs.declared.Refusal.TheVariants.{NotStrong}
use Rattle.answer.specs.Checks.{passed, refused, FirstFailure}
use Rattle.theory.specs.Grades.{StrongMarking}
use Rattle.formats.specs.RuleFile.{morphism_of, marking_of}
use Rattle.formats.specs.RuleChecks.{rule_size}
use Rattle.formats.specs.Calls.{checked_checks}
use Rattle.formats.proofs.Buffers.{buffer_long}
use Rattle.promises.specs.Reduce.{map_size, reduce_checks}
use Rattle.promises.proofs.StrengthOrder.{refused_file, refused_weak, passed_strong}

module _ (bytes out map scratch : List ℕ) (out_long : rule_size ≤ length out) (map-long : map_size ≤ length map) where
  -- a refusal of the file, whether its rule is strong or not
  pub file_first : (r : Refusal) (input place : ℕ) → FirstFailure (checked_checks 1 bytes scratch) (refused r input place)
      → FirstFailure (reduce_checks bytes out map scratch) (refused r input place)
  file_first r input place p = buffer_long out_long (buffer_long map-long (refused_file bytes scratch r input place p))

  module _ (passes : FirstFailure (checked_checks 1 bytes scratch) passed) where
    -- a weak rule
    pub weak_last : ¬ StrongMarking (morphism_of bytes) (marking_of bytes) → FirstFailure (reduce_checks bytes out map scratch) (refused NotStrong 1 0)
    weak_last f = buffer_long out_long (buffer_long map-long (refused_weak bytes scratch passes f))

    -- a strong one
    pub none_fails : StrongMarking (morphism_of bytes) (marking_of bytes) → FirstFailure (reduce_checks bytes out map scratch) passed
    none_fails strong = buffer_long out_long (buffer_long map-long (passed_strong bytes scratch passes strong))

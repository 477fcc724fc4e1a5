-- The order of the checks of `advance` and `advance_word`: the rule's own, 3 for the monitor's values, 12; then 10 of an event, or 11 and 10 of a word of events. What they
-- come to where each is the first that fails, and where none does. Assumes nothing.
use Prim.Native.Nat.{ℕ, ◌≤◌, ◌<◌}
use mathlib.Core.Path.{refl}
use mathlib.Core.List.{List}
use lib.ListN.{length}
use Rattle.answer.specs.declared.Refusal.{Refusal}
use Rattle.answer.specs.declared.Refusal.TheVariants.{EntryOutOfRange, UnknownLetter, WordLength, NotStrong}
use Rattle.answer.specs.Checks.{passed, refused, FirstFailure}
use Rattle.answer.proofs.Order.{first_passes, first_fails, none_left, passed_before, refused_before}
use Rattle.theory.specs.Words.{Over}
use Rattle.theory.specs.Grades.{StrongMarking}
use Rattle.formats.specs.RuleFile.{elements_of, letters_of, morphism_of, marking_of}
use Rattle.formats.specs.WordChecks.{UnknownLetterAt}
use Rattle.formats.specs.Calls.{checked_checks}
use Rattle.promises.specs.declared.Monitor.{Monitor}
use Rattle.promises.specs.declared.Step.{Step}
use Rattle.promises.specs.Monitor.{monitor_value_check}
use Rattle.promises.specs.Weak.{weak_check}
use Rattle.promises.specs.EventWords.{longest_log, LogTooLongAt}
use Rattle.promises.specs.Advance.{ForeignStep, strong_monitor_checks, advance_checks, advance_word_checks}
use Rattle.promises.proofs.MonitorOrder.{Stray}
use Rattle.promises.proofs.EventWords.{step_foreign, step_known, log_passes, log_foreign}

module _ (input : ℕ) (bytes : List ℕ) (f : Monitor) (scratch : List ℕ) where
  -- ---- the rule and its monitor

  -- a refusal of the file, whatever the monitor is
  pub file_first : (r : Refusal) (i place : ℕ) → FirstFailure (checked_checks input bytes scratch) (refused r i place)
      → FirstFailure (strong_monitor_checks input bytes f scratch) (refused r i place)
  file_first r i place p = refused_before (checked_checks input bytes scratch) _ p

  module _ (passes : FirstFailure (checked_checks input bytes scratch) passed) where
    -- a stray value, whether the rule is strong or not
    pub values_next : Stray bytes f → FirstFailure (strong_monitor_checks input bytes f scratch) (refused EntryOutOfRange input 0)
    values_next stray =
        passed_before (checked_checks input bytes scratch) _ passes (first_fails (monitor_value_check input (elements_of bytes) f) (record { stray = stray; is_place = refl }))

    module _ (fits : ¬ Stray bytes f) where
      -- a weak rule
      pub weak_next : ¬ StrongMarking (morphism_of bytes) (marking_of bytes) → FirstFailure (strong_monitor_checks input bytes f scratch) (refused NotStrong input 0)
      weak_next weak =
          passed_before (checked_checks input bytes scratch) _ passes
          (first_passes (record { nowhere = λ place a. fits a.stray }) (first_fails (weak_check input bytes) (record { weak = weak; is_place = refl })))

      -- neither
      pub strong_passes : StrongMarking (morphism_of bytes) (marking_of bytes) → FirstFailure (strong_monitor_checks input bytes f scratch) passed
      strong_passes strong =
          passed_before (checked_checks input bytes scratch) _ passes
          (first_passes (record { nowhere = λ place a. fits a.stray }) (first_passes (record { nowhere = λ place a. a.weak strong }) none_left))

  -- ---- a step: a refusal of those, whatever it is, and then 10

  pub step_others_first : (step : Step) (r : Refusal) (i place : ℕ) → FirstFailure (strong_monitor_checks input bytes f scratch) (refused r i place)
      → FirstFailure (advance_checks input bytes f step scratch) (refused r i place)
  step_others_first step r i place p = refused_before (strong_monitor_checks input bytes f scratch) _ p

  -- ---- a word: a refusal of those, whatever it is, then 11, whatever its letters are, and 10

  pub word_others_first : (w : List ℕ) (r : Refusal) (i place : ℕ) → FirstFailure (strong_monitor_checks input bytes f scratch) (refused r i place)
      → FirstFailure (advance_word_checks input bytes f w scratch) (refused r i place)
  word_others_first w r i place p = refused_before (strong_monitor_checks input bytes f scratch) _ p

  module _ (stands : FirstFailure (strong_monitor_checks input bytes f scratch) passed) where
    pub step_letter_last : (step : Step) → ForeignStep (letters_of bytes) step → FirstFailure (advance_checks input bytes f step scratch) (refused UnknownLetter input 0)
    step_letter_last step foreign = passed_before (strong_monitor_checks input bytes f scratch) _ stands (step_foreign input (letters_of bytes) step foreign)

    pub step_none_fails : (step : Step) → ¬ ForeignStep (letters_of bytes) step → FirstFailure (advance_checks input bytes f step scratch) passed
    step_none_fails step known = passed_before (strong_monitor_checks input bytes f scratch) _ stands (step_known input (letters_of bytes) step known)

    module _ (w : List ℕ) where
      pub word_length_next : longest_log < length w → FirstFailure (advance_word_checks input bytes f w scratch) (refused WordLength input 0)
      word_length_next long =
          passed_before (strong_monitor_checks input bytes f scratch) _ stands
          (first_fails (record { refusal = WordLength; input = input; Fails = LogTooLongAt w }) (record { above = long; is_place = refl }))

      module _ (short : length w ≤ longest_log) where
        pub word_letter_last : (place : ℕ) → UnknownLetterAt (letters_of bytes) w place → FirstFailure (advance_word_checks input bytes f w scratch) (refused UnknownLetter input place)
        word_letter_last place foreign = passed_before (strong_monitor_checks input bytes f scratch) _ stands (log_foreign input (letters_of bytes) w short foreign)

        pub word_none_fails : Over (letters_of bytes) w → FirstFailure (advance_word_checks input bytes f w scratch) passed
        word_none_fails over = passed_before (strong_monitor_checks input bytes f scratch) _ stands (log_passes input (letters_of bytes) w short over)

-- The order of the checks of `event` and `verdict`: the rule's own, 3 for the monitor's values, then 10 of an event, or 11 and 12 of a verdict. What they
-- come to where each is the first that fails, and where none does. Assumes nothing.
use Prim.Native.Nat.{ℕ, ◌≤◌}
use mathlib.Core.Path.{◌≡◌, refl}
use mathlib.Core.Logic.{◌⊎◌}
use mathlib.Core.List.{List, [], ◌∷◌, ◌++◌}
use Rattle.answer.specs.declared.Refusal.{Refusal}
use Rattle.answer.specs.declared.Refusal.TheVariants.{EntryOutOfRange, UnknownLetter, WordLength, NotStrong}
use Rattle.answer.specs.Checks.{Check, Verdict, passed, refused, Passes, FirstFailure}
use Rattle.answer.proofs.Order.{first_passes, first_fails, none_left, passed_before, refused_before}
use Rattle.theory.specs.Grades.{StrongMarking}
use Rattle.formats.specs.RuleFile.{elements_of, letters_of, morphism_of, marking_of}
use Rattle.formats.specs.Calls.{checked_checks}
use Rattle.promises.specs.declared.Monitor.{Monitor}
use Rattle.promises.specs.Monitor.{no_value, ValueOutOfRange, monitor_value_check, monitor_checks}
use Rattle.promises.specs.Moves.{lone_letter_check, event_checks}
use Rattle.promises.specs.Verdict.{none_check, verdict_checks}
use Rattle.promises.specs.Weak.{weak_check}

-- one of a monitor's values is neither an element nor none
abbrev pub Stray : List ℕ → Monitor → Type 0
Stray bytes f = ValueOutOfRange (elements_of bytes) f.before ⊎ ValueOutOfRange (elements_of bytes) f.since

module _ (bytes : List ℕ) (f : Monitor) (scratch : List ℕ) where
  -- ---- whatever a call asks behind the monitor's values

  module _ (after : List Check) where
    file_decides : (r : Refusal) (input place : ℕ) → FirstFailure (checked_checks 1 bytes scratch) (refused r input place)
        → FirstFailure (monitor_checks bytes f scratch ++ after) (refused r input place)
    file_decides r input place p = refused_before (monitor_checks bytes f scratch) after (refused_before (checked_checks 1 bytes scratch) _ p)

    module _ (passes : FirstFailure (checked_checks 1 bytes scratch) passed) where
      values_decide : Stray bytes f → FirstFailure (monitor_checks bytes f scratch ++ after) (refused EntryOutOfRange 1 0)
      values_decide stray =
          refused_before (monitor_checks bytes f scratch) after (passed_before (checked_checks 1 bytes scratch) _ passes
          (first_fails (monitor_value_check 1 (elements_of bytes) f) (record { stray = stray; is_place = refl })))

      others_decide : ¬ Stray bytes f → {v : Verdict} → FirstFailure after v → FirstFailure (monitor_checks bytes f scratch ++ after) v
      others_decide fits g =
          passed_before (monitor_checks bytes f scratch) after (passed_before (checked_checks 1 bytes scratch) _ passes
          (first_passes (record { nowhere = λ place a. fits a.stray }) none_left)) g

  -- ---- an event

  module _ (letter : ℕ) where
    -- a refusal of the file, whatever the monitor and the letter are
    pub event_file_first : (r : Refusal) (input place : ℕ) → FirstFailure (checked_checks 1 bytes scratch) (refused r input place)
        → FirstFailure (event_checks bytes f letter scratch) (refused r input place)
    event_file_first = file_decides (lone_letter_check 1 (letters_of bytes) letter ∷ [])

    module _ (passes : FirstFailure (checked_checks 1 bytes scratch) passed) where
      -- a stray value, whatever the letter is
      pub event_values_next : Stray bytes f → FirstFailure (event_checks bytes f letter scratch) (refused EntryOutOfRange 1 0)
      event_values_next = values_decide (lone_letter_check 1 (letters_of bytes) letter ∷ []) passes

      -- a foreign letter
      pub event_letter_last : ¬ Stray bytes f → letters_of bytes ≤ letter → FirstFailure (event_checks bytes f letter scratch) (refused UnknownLetter 1 0)
      event_letter_last fits foreign =
          others_decide (lone_letter_check 1 (letters_of bytes) letter ∷ []) passes fits
          (first_fails (lone_letter_check 1 (letters_of bytes) letter) (record { foreign = foreign; is_place = refl }))

      -- neither
      pub event_none_fails : ¬ Stray bytes f → ¬ (letters_of bytes ≤ letter) → FirstFailure (event_checks bytes f letter scratch) passed
      event_none_fails fits known =
          others_decide (lone_letter_check 1 (letters_of bytes) letter ∷ []) passes fits (first_passes (record { nowhere = λ place a. known a.foreign }) none_left)

  -- ---- a verdict

  abbrev behind : List Check
  behind = none_check f ∷ weak_check 1 bytes ∷ []

  -- a refusal of the file, whatever the monitor is
  pub verdict_file_first : (r : Refusal) (input place : ℕ) → FirstFailure (checked_checks 1 bytes scratch) (refused r input place)
      → FirstFailure (verdict_checks bytes f scratch) (refused r input place)
  verdict_file_first = file_decides behind

  module _ (passes : FirstFailure (checked_checks 1 bytes scratch) passed) where
    -- a stray value, whether the rule is strong or not
    pub verdict_values_next : Stray bytes f → FirstFailure (verdict_checks bytes f scratch) (refused EntryOutOfRange 1 0)
    verdict_values_next = values_decide behind passes

    module _ (fits : ¬ Stray bytes f) where
      -- since none, whether the rule is strong or not
      pub verdict_none_next : f.since ≡ no_value → FirstFailure (verdict_checks bytes f scratch) (refused WordLength 1 0)
      verdict_none_next none = others_decide behind passes fits (first_fails (none_check f) (record { none = none; is_place = refl }))

      module _ (some : ¬ (f.since ≡ no_value)) where
        since_passes : Passes (none_check f)
        since_passes = record { nowhere = λ place a. some a.none }

        -- a weak rule
        pub verdict_weak_last : ¬ StrongMarking (morphism_of bytes) (marking_of bytes) → FirstFailure (verdict_checks bytes f scratch) (refused NotStrong 1 0)
        verdict_weak_last weak = others_decide behind passes fits (first_passes since_passes (first_fails (weak_check 1 bytes) (record { weak = weak; is_place = refl })))

        -- a strong one
        pub verdict_none_fails : StrongMarking (morphism_of bytes) (marking_of bytes) → FirstFailure (verdict_checks bytes f scratch) passed
        verdict_none_fails strong =
            others_decide behind passes fits (first_passes since_passes (first_passes (record { nowhere = λ place a. a.weak strong }) none_left))

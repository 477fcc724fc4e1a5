-- The order of the checks of `member`, and the input that each is told of: the rule's own, 11 for u, then v, 10 in u, then v. What they come to where each
-- is the first that fails, and where none does. Assumes nothing.
use Prim.Native.Nat.{ℕ, ◌<◌}
use mathlib.Core.Path.{refl}
use mathlib.Core.Logic.{◌⊎◌}
use mathlib.Core.List.{List, [], ◌∷◌}
use lib.ListN.{length}
use Rattle.answer.specs.declared.Refusal.{Refusal}
use Rattle.answer.specs.declared.Refusal.TheVariants.{WordLength, UnknownLetter}
use Rattle.answer.specs.Checks.{Check, Verdict, passed, refused, FirstFailure}
use Rattle.answer.proofs.Order.{first_passes, first_fails, none_left, passed_before, refused_before}
use Rattle.formats.specs.RuleFile.{letters_of}
use Rattle.formats.specs.Calls.{checked_checks}
use Rattle.formats.specs.WordChecks.{LengthOutAt, UnknownLetterAt, lasso_checks}
use Rattle.promises.specs.Member.{member_checks}

-- a word of fewer letters than the shortest, or of more than 4,224
abbrev pub LengthOut : ℕ → List ℕ → Type 0
LengthOut shortest w = (length w < shortest) ⊎ (4224 < length w)

-- some letter is none of k
abbrev pub Foreign : ℕ → List ℕ → Type 0
Foreign k w = (place : ℕ) × UnknownLetterAt k w place

module _ (bytes u v scratch : List ℕ) where
  -- a refusal of the file, whatever the words are
  pub file_first : (r : Refusal) (input place : ℕ) → FirstFailure (checked_checks 1 bytes scratch) (refused r input place)
      → FirstFailure (member_checks bytes u v scratch) (refused r input place)
  file_first r input place p = refused_before (checked_checks 1 bytes scratch) (lasso_checks (letters_of bytes) u v) p

  abbrev letter_check : ℕ → List ℕ → Check
  letter_check input w = record { refusal = UnknownLetter; input = input; Fails = UnknownLetterAt (letters_of bytes) w }

  module _ (passes : FirstFailure (checked_checks 1 bytes scratch) passed) where
    words_decide : {w : Verdict} → FirstFailure (lasso_checks (letters_of bytes) u v) w → FirstFailure (member_checks bytes u v scratch) w
    words_decide g = passed_before (checked_checks 1 bytes scratch) (lasso_checks (letters_of bytes) u v) passes g

    -- the length of u, whatever v and the letters are
    pub start_length_next : LengthOut 0 u → FirstFailure (member_checks bytes u v scratch) (refused WordLength 1 0)
    start_length_next out = words_decide (first_fails (record { refusal = WordLength; input = 1; Fails = LengthOutAt 0 u }) (record { outside = out; is_place = refl }))

    module _ (start_fits : ¬ LengthOut 0 u) where
      -- that of v, whatever the letters are
      pub cycle_length_next : LengthOut 1 v → FirstFailure (member_checks bytes u v scratch) (refused WordLength 2 0)
      cycle_length_next out =
          words_decide (first_passes (record { nowhere = λ place a. start_fits a.outside })
          (first_fails (record { refusal = WordLength; input = 2; Fails = LengthOutAt 1 v }) (record { outside = out; is_place = refl })))

      module _ (cycle-fits : ¬ LengthOut 1 v) where
        letters_decide : {w : Verdict} → FirstFailure (letter_check 1 u ∷ letter_check 2 v ∷ []) w → FirstFailure (member_checks bytes u v scratch) w
        letters_decide g =
            words_decide (first_passes (record { nowhere = λ place a. start_fits a.outside }) (first_passes (record { nowhere = λ place a. cycle-fits a.outside }) g))

        -- the first foreign letter of u, whatever those of v are
        pub start_letter_next : (place : ℕ) → UnknownLetterAt (letters_of bytes) u place → FirstFailure (member_checks bytes u v scratch) (refused UnknownLetter 1 place)
        start_letter_next place a = letters_decide (first_fails (letter_check 1 u) a)

        module _ (start-known : ¬ Foreign (letters_of bytes) u) where
          -- that of v
          pub cycle_letter_last : (place : ℕ) → UnknownLetterAt (letters_of bytes) v place → FirstFailure (member_checks bytes u v scratch) (refused UnknownLetter 2 place)
          cycle_letter_last place a = letters_decide (first_passes (record { nowhere = λ place a. start-known (place, a) }) (first_fails (letter_check 2 v) a))

          pub none_fails : ¬ Foreign (letters_of bytes) v → FirstFailure (member_checks bytes u v scratch) passed
          none_fails known =
              letters_decide (first_passes (record { nowhere = λ place a. start-known (place, a) }) (first_passes (record { nowhere = λ place a. known (place, a) }) none_left))

-- The checks of `combine` behind those of the two files: "18 .. tried once both files pass; then 12 for the first rule, input 1, and the second, input
-- 2; then 19" (document 02, Job 7). What they come to where each is the first that fails, and where none does. Assumes nothing.
use Prim.Native.Nat.{ℕ}
use mathlib.Core.Path.{◌≡◌, refl}
use mathlib.Core.List.{List}
use Rattle.answer.specs.declared.Refusal.TheVariants.{LettersDiffer, NotStrong, TooManyPairs}
use Rattle.answer.specs.Checks.{passed, refused, Passes, FirstFailure}
use Rattle.answer.proofs.Order.{first_passes, first_fails, none_left}
use Rattle.theory.specs.Grades.{StrongMarking}
use Rattle.theory.specs.Combined.{MorePairs}
use Rattle.formats.specs.RuleFile.{letters_of, morphism_of, marking_of}
use Rattle.promises.specs.Weak.{weak_check}
use Rattle.promises.specs.Combine.{letters_check, pairs_check, pair_checks}

module _ (first second : List ℕ) where
  -- rules over different numbers of letters, weak or not
  pub letters_first : ¬ (letters_of first ≡ letters_of second) → FirstFailure (pair_checks first second) (refused LettersDiffer 1 0)
  letters_first f = first_fails (letters_check first second) (record { differ = f; is_place = refl })

  module _ (same : letters_of first ≡ letters_of second) where
    letters_pass : Passes (letters_check first second)
    letters_pass = record { nowhere = λ place a. a.differ same }

    -- a weak first rule, whatever the second is
    pub weak_first : ¬ StrongMarking (morphism_of first) (marking_of first) → FirstFailure (pair_checks first second) (refused NotStrong 1 0)
    weak_first f = first_passes letters_pass (first_fails (weak_check 1 first) (record { weak = f; is_place = refl }))

    module _ (strong : StrongMarking (morphism_of first) (marking_of first)) where
      strong_passes : Passes (weak_check 1 first)
      strong_passes = record { nowhere = λ place a. a.weak strong }

      -- a weak second rule
      pub weak_second : ¬ StrongMarking (morphism_of second) (marking_of second) → FirstFailure (pair_checks first second) (refused NotStrong 2 0)
      weak_second f = first_passes letters_pass (first_passes strong_passes (first_fails (weak_check 2 second) (record { weak = f; is_place = refl })))

      module _ (strong' : StrongMarking (morphism_of second) (marking_of second)) where
        strong_too : Passes (weak_check 2 second)
        strong_too = record { nowhere = λ place a. a.weak strong' }

        -- more than 64 pairs of two strong rules
        pub pairs_last : MorePairs (morphism_of first) (morphism_of second) 64 → FirstFailure (pair_checks first second) (refused TooManyPairs 1 0)
        pairs_last more =
            first_passes letters_pass (first_passes strong_passes (first_passes strong_too (first_fails (pairs_check first second) (record { more = more; is_place = refl }))))

        -- no more than 64
        pub none_fails : ¬ MorePairs (morphism_of first) (morphism_of second) 64 → FirstFailure (pair_checks first second) passed
        none_fails f =
            first_passes letters_pass (first_passes strong_passes (first_passes strong_too (first_passes (record { nowhere = λ place a. f a.more }) none_left)))

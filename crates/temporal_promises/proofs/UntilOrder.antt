-- The checks of `until` behind those of the two files: those of `combine`, then 23. What they come to where each is the first that fails, and where none
-- does. Assumes nothing.
use Prim.Native.Nat.{ℕ}
use mathlib.Core.Path.{refl}
use mathlib.Core.List.{List, [], ◌∷◌}
use Rattle.answer.specs.declared.Refusal.{Refusal}
use Rattle.answer.specs.declared.Refusal.TheVariants.{TooManyClasses}
use Rattle.answer.specs.Checks.{passed, refused, FirstFailure}
use Rattle.answer.proofs.Order.{first_passes, first_fails, none_left, refused_before, passed_before}
use Rattle.temporal.specs.Clamps.{MoreUntilClasses}
use Rattle.temporal.proofs.OneRefusal.{pairs_more_classes}
use Rattle.promises.specs.Combine.{pair_checks}
use Rattle.temporal_promises.specs.Until.{FilesGrades, until_classes_check, until_own_checks}

module _ (first second : List ℕ) where
  -- a refusal that `combine` has too
  pub pairs_refused : (r : Refusal) (input place : ℕ) → FirstFailure (pair_checks first second) (refused r input place) → FirstFailure (until_own_checks first second) (refused r input place)
  pairs_refused r input place p = refused_before (pair_checks first second) (until_classes_check first second ∷ []) p

  module _ (passes : FirstFailure (pair_checks first second) passed) (t : FilesGrades first second) where
    -- too many classes
    pub classes_last : MoreUntilClasses t.table t.first_grade t.second_grade 64 → FirstFailure (until_own_checks first second) (refused TooManyClasses 1 0)
    classes_last more =
        passed_before (pair_checks first second) (until_classes_check first second ∷ []) passes (first_fails (until_classes_check first second) (record { over = t; more = more; is_place = refl }))

    -- not too many in one table of the pairs: nor in any
    pub none_fails : ¬ MoreUntilClasses t.table t.first_grade t.second_grade 64 → FirstFailure (until_own_checks first second) passed
    none_fails f =
        passed_before (pair_checks first second) (until_classes_check first second ∷ []) passes
        (first_passes (record {
          nowhere = λ place a.
              (let o = a.over in
              f ((pairs_more_classes o.pairs t.pairs o.lawful t.lawful o.first_decides o.second_decides t.first_decides t.second_decides 64).0 a.more));
        }) none_left)

-- Strong by grades: of marks that are at most 3 the levels from 1 to 3 tell, and so a test that computes decides it. Assumes nothing.
use Prim.Native.Nat.{ℕ, suc, ◌≤◌, ◌<◌}
use native.Mathlib.Omega.{arith}
use mathlib.Core.Bool.{Bool}
use mathlib.Core.Logic.{⊎_elim}
use lib.Dec.{T}
use Rattle.finite.proofs.Numbers.{le_or_lt}
use Rattle.finite.proofs.Tests.{T_dec}
use Rattle.finite.proofs.Search.{all_below, all_intro, all_elim}
use Rattle.theory.specs.Rules.{Morphism, Lawful, Marking, level, AllReached}
use Rattle.theory.specs.Acceptance.{Strong}
use Rattle.theory.specs.Grades.{StrongMarking}
use Rattle.theory.proofs.Gradings.{GradedMarks, level_linked, at_least_small}
use Rattle.theory.proofs.Included.{strong_test, strong_test_elim, strong_test_intro}

-- the levels 1 to 3 pass
unfoldable pub strong_grades_test : Morphism → Marking → Bool
strong_grades_test m marks = all_below 3 (λ i. strong_test m (level (suc i) marks))

module _ {m : Morphism} {marks : Marking} (law : Lawful m) (good : GradedMarks m marks) where
  -- no lasso has a grade above 3
  high_strong : (g : ℕ) → 3 < g → Strong m (level g marks)
  high_strong g h = record {
    both_or_neither = λ u v u' v' l l' eu ev.
        (λ a. absurd (omega (arith, at_least_small law good a)), λ a. absurd (omega (arith, at_least_small law good a)));
  }

  pub levels_strong : ((g : ℕ) → 1 ≤ g → g ≤ 3 → Strong m (level g marks)) → StrongMarking m marks
  levels_strong f = record { at_each = λ g some. ⊎_elim (λ h. f g some h) (λ h. high_strong g h) (le_or_lt g 3) }

  -- a marking that passes is strong
  pub strong_grades_elim : T (strong_grades_test m marks) → StrongMarking m marks
  unfolding strong_grades_test
  strong_grades_elim t = levels_strong at
    where
      at : (g : ℕ) → 1 ≤ g → g ≤ 3 → Strong m (level g marks)
      at Prim.Native.Nat.zero some h = elim some [ ]
      at (suc i) some h =
          strong_test_elim law (level_linked law good some)
          (all_elim 3 (λ i. strong_test m (level (suc i) marks)) t i (omega arith))

  module _ (reached : AllReached m) where
    -- and a strong marking passes
    pub strong_grades_intro : StrongMarking m marks → T (strong_grades_test m marks)
    unfolding strong_grades_test
    strong_grades_intro s =
        all_intro 3 (λ i. strong_test m (level (suc i) marks))
        (λ i h. strong_test_intro law (level_linked law good (let z : 1 ≤ suc i = omega arith in z)) reached (s.at_each (suc i) (omega arith)))

    pub marking_strong_dec : Dec (StrongMarking m marks)
    marking_strong_dec =
        ⊎_elim (λ t. yes (strong_grades_elim t)) (λ f. no (λ s. f (strong_grades_intro s))) (T_dec (strong_grades_test m marks))

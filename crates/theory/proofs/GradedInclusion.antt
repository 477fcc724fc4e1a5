-- Inclusion by grades: of marks that are at most 3 the levels from 1 to 3 tell, and so a test that computes finds it. Assumes nothing.
use Prim.Native.Nat.{ℕ, suc, ◌≤◌}
use native.Mathlib.Omega.{arith}
use mathlib.Core.Bool.{Bool}
use mathlib.Core.Logic.{⊎_elim}
use lib.Dec.{T}
use Rattle.finite.proofs.Numbers.{le_or_lt}
use Rattle.finite.proofs.Search.{all_below, all_elim}
use Rattle.theory.specs.Rules.{Morphism, Lawful, Marking, level}
use Rattle.theory.specs.Inclusion.{Included, IncludedGrades}
use Rattle.theory.proofs.Gradings.{GradedMarks, level_linked, at_least_small}
use Rattle.theory.proofs.Included.{included_test, included_elim}

-- the levels 1 to 3 pass
unfoldable pub included_grades_test : Morphism → Marking → Marking → Bool
included_grades_test m marks marks' = all_below 3 (λ i. included_test m (level (suc i) marks) (level (suc i) marks'))

-- markings that pass are included; no lasso has a grade above 3
pub included_grades_elim : {m : Morphism} {marks marks' : Marking} → Lawful m → GradedMarks m marks → GradedMarks m marks' → T (included_grades_test m marks marks')
    → IncludedGrades m marks marks'
unfolding included_grades_test
included_grades_elim {m} {marks} {marks'} law good good' t = record {
  at_each = λ g some.
      ⊎_elim (λ h. at g some h) (λ h. record { accepted_too = λ u v l a. absurd (omega (arith, at_least_small law good a)) }) (le_or_lt g 3);
}
  where
    at : (g : ℕ) → 1 ≤ g → g ≤ 3 → Included m (level g marks) (level g marks')
    at Prim.Native.Nat.zero some h = elim some [ ]
    at (suc i) some h =
        included_elim law (level_linked law good some) (level_linked law good' some)
        (all_elim 3 (λ i. included_test m (level (suc i) marks) (level (suc i) marks')) t i (omega arith))

-- The complement of a strong rule with grades: 3 less the grade is an outcome too, and the linked pairs marked with it are the
-- complement. Assumes nothing.
use Prim.Native.Nat.{ℕ, ◌-◌, ◌≤◌}
use native.Mathlib.Omega.{arith}
use mathlib.Core.Path.{◌≡◌, sym, ap, subst, ◌∙◌}
use mathlib.Core.Logic.{◌↔◌, ⊎_elim}
use mathlib.Core.List.{List}
use Rattle.finite.proofs.Numbers.{le_or_lt}
use Rattle.theory.specs.Words.{Lasso}
use Rattle.theory.specs.Rules.{Morphism, Lawful, Marking, AllReached}
use Rattle.theory.specs.Grades.{AtLeast, StrongMarking}
use Rattle.theory.specs.Smallest.{Complement}
use Rattle.theory.proofs.Gradings.{GradedMarks}
use Rattle.minimality.proofs.Smallest.{outcome, LassoValues, lasso_values, values_outcome}
use Rattle.minimality.proofs.Saturation.{DependsOnWord, saturated, Saturates, saturates_marking, saturated_at, saturated_other}
use Rattle.minimality.proofs.GradeOutcomes.{grading, grading_outcome, grading_depends, grading_lassos}

-- a number computed from an outcome is an outcome
module _ {m : Morphism} (law : Lawful m) (acc : ℕ → ℕ → ℕ) (f : ℕ → ℕ) where
  pub outcome_after : {u v : List ℕ} → Lasso m.letters u v → outcome m (λ s z. f (acc s z)) u v ≡ f (outcome m acc u v)
  outcome_after {u} {v} l =
      let k : LassoValues m u v = lasso_values law l in
      values_outcome (λ s z. f (acc s z)) k ∙ ap f (sym (values_outcome acc k))

  -- and depends on the endless word only if that does
  pub depends_after : DependsOnWord m acc → DependsOnWord m (λ s z. f (acc s z))
  depends_after d = record {
    same_outcome = λ u v u' v' l l' same. outcome_after l ∙ ap f (d.same_outcome u v u' v' l l' same) ∙ sym (outcome_after l');
  }

-- what the grade of the lassos with the values (s, z) lacks of 3
unfoldable pub lack : Morphism → Marking → ℕ → ℕ → ℕ
lack m marks s z = 3 - grading m marks s z

-- the linked pairs marked with it
unfoldable pub complement_marks : Morphism → Marking → Marking
complement_marks m marks = saturated m (lack m marks)

module _ {m : Morphism} {marks : Marking} (law : Lawful m) (reached : AllReached m) (good : GradedMarks m marks) (strong : StrongMarking m marks) where
  pub complement_saturates : Saturates m (lack m marks) (complement_marks m marks)
  unfolding lack complement_marks
  complement_saturates = saturates_marking law reached (depends_after law (grading m marks) (λ n. 3 - n) (grading_depends law reached good strong))

  -- "in the complement, those of 4 − g or more are the rest"
  pub complement_rest : {u v : List ℕ} (g : ℕ) → 1 ≤ g → g ≤ 3 → Lasso m.letters u v
      → AtLeast m (complement_marks m marks) (4 - g) u v ↔ (AtLeast m marks g u v → ⊥)
  unfolding lack
  complement_rest {u} {v} g some h l =
      let a = complement_saturates.accepts (4 - g) (omega arith) u v l in
      let e = outcome_after law (grading m marks) (λ n. 3 - n) l in
      let o = grading_outcome law reached good strong g some u v l in (
        λ x y. (let p : 4 - g ≤ 3 - outcome m (grading m marks) u v = subst (λ n. 4 - g ≤ n) e (a.0 x) in omega (arith, o.0 y)),
        λ f. a.1 (subst (λ n. 4 - g ≤ n) (sym e)
            (⊎_elim (λ (k : g ≤ outcome m (grading m marks) u v). absurd (f (o.1 k))) (λ k. omega arith) (le_or_lt g (outcome m (grading m marks) u v)))),
      )

  -- each linked pair has 3 less the grade of its lassos
  pub complement_right : Complement m marks (complement_marks m marks)
  unfolding lack complement_marks
  complement_right = record {
    of_linked = λ s e k. record {
      grade = grading m marks s e;
      graded = record { linked = k; lassos = grading_lassos law reached good strong k.inside k.idempotent.inside };
      turned = saturated_at (lack m marks) s e k;
    };
    of_others = λ s e hs he f. saturated_other (lack m marks) s e f;
  }

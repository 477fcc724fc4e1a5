-- Two strong rules made one: in the table of the pairs of values of two rules, a number computed from the two grades of a lasso is an
-- outcome that depends on the endless word only. So the linked pairs marked with it, which is two looks in the closures of the two
-- rules, are strong and give each lasso that number for its grade. Assumes nothing.
use Prim.Native.Nat.{ℕ, ◌≤◌, ◌<◌}
use mathlib.Core.Path.{◌≡◌, sym, subst, ap₂, ◌∙◌}
use mathlib.Core.List.{List}
use Rattle.theory.specs.Words.{Over, Lasso}
use Rattle.theory.specs.Rules.{Morphism, Lawful, Marking, element, AllReached}
use Rattle.theory.specs.Pairs.{Linked}
use Rattle.theory.specs.Grades.{Graded, StrongMarking}
use Rattle.theory.specs.Smallest.{MarksGrades}
use Rattle.theory.specs.Maps.{Carries}
use Rattle.theory.specs.Combined.{PairsOf}
use Rattle.theory.proofs.Values.{inside_of}
use Rattle.theory.proofs.Carried.{element_carried}
use Rattle.theory.proofs.Combined.{pairs_reached, left_linked, right_linked}
use Rattle.theory.proofs.Gradings.{GradedMarks, one_grade}
use Rattle.theory.proofs.ClosureGrades.{closure_grade, closure_grade_small}
use Rattle.minimality.proofs.Contexts.{HasValue}
use Rattle.minimality.proofs.Smallest.{outcome, LassoValues, lasso_values, values_outcome}
use Rattle.minimality.proofs.Saturation.{DependsOnWord, MarksOutcomes, GradesAreOutcomes, Saturates, marks_at_most, marks_saturate, saturates_graded}
use Rattle.minimality.proofs.GradeOutcomes.{grading, grading_linked, grading_outcome, grading_graded, grading_depends}

-- the outcome of a lasso in a table that another is carried to: that of the carried values
module _ {a b : Morphism} {to : ℕ → ℕ} (law : Lawful a) (letters : a.letters ≡ b.letters) (f : Carries a b to) where
  pub has_carried : {w : List ℕ} {s : ℕ} → HasValue a w (element s) → HasValue b w (element (to s))
  has_carried {w} h = record { over = subst (λ (k : ℕ). Over k w) letters h.over; is = element_carried law f h.over h.is }

module _ {a b : Morphism} {to : ℕ → ℕ} (law : Lawful a) (law' : Lawful b) (letters : a.letters ≡ b.letters) (f : Carries a b to) (acc : ℕ → ℕ → ℕ) where
  has_inside : {w : List ℕ} {s : ℕ} → HasValue b w (element s) → s < b.size
  has_inside h = inside_of law' h.over h.is

  pub carried_outcome : {u v : List ℕ} (k : LassoValues a u v) → outcome b acc u v ≡ acc (to k.start) (to k.cycle)
  carried_outcome {u} {v} k =
      let carried : LassoValues b u v = record {
        start = to k.start;
        cycle = to k.cycle;
        start_inside = has_inside (has_carried law letters f k.start_has);
        cycle_inside = has_inside (has_carried law letters f k.cycle_has);
        start_has = has_carried law letters f k.start_has;
        cycle_has = has_carried law letters f k.cycle_has;
      } in
      values_outcome acc carried

-- a number computed from an outcome of each half
unfoldable pub pairwise : (ℕ → ℕ → ℕ) → (ℕ → ℕ → ℕ) → (ℕ → ℕ → ℕ) → (ℕ → ℕ) → (ℕ → ℕ) → ℕ → ℕ → ℕ
pairwise f acc₁ acc₂ left right s z = f (acc₁ (left s) (left z)) (acc₂ (right s) (right z))

module _ {m₁ m₂ m : Morphism} {left right : ℕ → ℕ} (p : PairsOf m₁ m₂ m left right) (law₁ : Lawful m₁) (law₂ : Lawful m₂) (law : Lawful m) (f : ℕ → ℕ → ℕ) where
  module _ (acc₁ acc₂ : ℕ → ℕ → ℕ) where
    -- is an outcome: it is computed from the two outcomes of the lasso
    pub pairwise_outcome : {u v : List ℕ} → Lasso m.letters u v → outcome m (pairwise f acc₁ acc₂ left right) u v ≡ f (outcome m₁ acc₁ u v) (outcome m₂ acc₂ u v)
    unfolding pairwise
    pairwise_outcome {u} {v} l =
        let k : LassoValues m u v = lasso_values law l in
        values_outcome (pairwise f acc₁ acc₂ left right) k
        ∙ sym (ap₂ f (carried_outcome law law₁ p.first_letters p.first acc₁ k) (carried_outcome law law₂ p.second_letters p.second acc₂ k))

    -- and depends on the endless word only if both do
    pub pairwise_depends : DependsOnWord m₁ acc₁ → DependsOnWord m₂ acc₂ → DependsOnWord m (pairwise f acc₁ acc₂ left right)
    pairwise_depends d₁ d₂ = record {
      same_outcome = λ u v u' v' l l' same.
          pairwise_outcome l
          ∙ ap₂ f (d₁.same_outcome u v u' v' (one l) (one l') same) (d₂.same_outcome u v u' v' (two l) (two l') same)
          ∙ sym (pairwise_outcome l');
    }
      where
        one : {u v : List ℕ} → Lasso m.letters u v → Lasso m₁.letters u v
        one {u} {v} l = subst (λ (k : ℕ). Lasso k u v) p.first_letters l

        two : {u v : List ℕ} → Lasso m.letters u v → Lasso m₂.letters u v
        two {u} {v} l = subst (λ (k : ℕ). Lasso k u v) p.second_letters l

-- what a strong rule has that passed the checks
pub record StrongGrades (m : Morphism) (marks : Marking) : Type 0 where
  pub lawful : Lawful m
  pub reached : AllReached m
  pub grades : GradedMarks m marks
  pub strong : StrongMarking m marks

pub strong_outcomes : {m : Morphism} {marks : Marking} → StrongGrades m marks → GradesAreOutcomes m marks (grading m marks)
strong_outcomes k = grading_outcome k.lawful k.reached k.grades k.strong

-- each lasso has a number computed from its two grades for a grade; the marking is strong and marks each linked pair, and no other, with
-- the grade of its lassos
pub record GradesCombined (f : ℕ → ℕ → ℕ) (m₁ : Morphism) (marks₁ : Marking) (m₂ : Morphism) (marks₂ : Marking) (m : Morphism) (marks : Marking) : Type 0 where
  pub grades : (u v : List ℕ) → Lasso m₁.letters u v → (a b : ℕ) → Graded m₁ marks₁ u v a → Graded m₂ marks₂ u v b → Graded m marks u v (f a b)
  pub strong : StrongMarking m marks
  pub marks_grades : MarksGrades m marks

module _ {m₁ m₂ m : Morphism} {left right : ℕ → ℕ} (p : PairsOf m₁ m₂ m left right) (law : Lawful m) {marks₁ marks₂ : Marking} (r₁ : StrongGrades m₁ marks₁)
    (r₂ : StrongGrades m₂ marks₂) (f : ℕ → ℕ → ℕ) where
  -- on a linked pair the grades of the halves' lassos are looks in the two closures
  pub pairwise_linked : (s e : ℕ) → Linked m s e
      → pairwise f (closure_grade m₁ marks₁) (closure_grade m₂ marks₂) left right s e ≡ pairwise f (grading m₁ marks₁) (grading m₂ marks₂) left right s e
  unfolding pairwise
  pairwise_linked s e l =
      sym (ap₂ f (grading_linked marks₁ r₁.lawful (left_linked p r₁.lawful l)) (grading_linked marks₂ r₂.lawful (right_linked p r₂.lawful l)))

  -- a marking by two looks in the closures
  module _ {marks : Marking} (looks : MarksOutcomes m (pairwise f (closure_grade m₁ marks₁) (closure_grade m₂ marks₂) left right) marks) where
    combined_saturates : Saturates m (pairwise f (grading m₁ marks₁) (grading m₂ marks₂) left right) marks
    combined_saturates =
        marks_saturate law (pairs_reached p law)
        (pairwise_depends p r₁.lawful r₂.lawful law f (grading m₁ marks₁) (grading m₂ marks₂)
        (grading_depends r₁.lawful r₁.reached r₁.grades r₁.strong) (grading_depends r₂.lawful r₂.reached r₂.grades r₂.strong))
        (record { of_linked = λ s e l. looks.of_linked s e l ∙ pairwise_linked s e l; of_others = looks.of_others })

    combined_graded : (u v : List ℕ) → Lasso m₁.letters u v → (a b : ℕ) → Graded m₁ marks₁ u v a → Graded m₂ marks₂ u v b → Graded m marks u v (f a b)
    combined_graded u v l a b first second =
        let l₀ = subst (λ (k : ℕ). Lasso k u v) (sym p.first_letters) l in
        let l₂ = subst (λ (k : ℕ). Lasso k u v) p.second_letters l₀ in
        subst (Graded m marks u v)
        (pairwise_outcome p r₁.lawful r₂.lawful law f (grading m₁ marks₁) (grading m₂ marks₂) l₀
        ∙ ap₂ f (one_grade (grading_graded r₁.lawful r₁.reached r₁.grades r₁.strong l) first)
        (one_grade (grading_graded r₂.lawful r₂.reached r₂.grades r₂.strong l₂) second))
        (saturates_graded combined_saturates l₀)

    pub combined_grades : GradesCombined f m₁ marks₁ m₂ marks₂ m marks
    combined_grades = record {
      grades = combined_graded;
      strong = combined_saturates.strong;
      marks_grades = combined_saturates.marks_grades;
    }

    -- its marks are on linked pairs, and no mark is above 3 where no number computed from two grades is
    pub combined_good : ((a b : ℕ) → a ≤ 3 → b ≤ 3 → f a b ≤ 3) → GradedMarks m marks
    unfolding pairwise
    combined_good small = record {
      small = marks_at_most 3 looks (λ s e l. small _ _ (closure_grade_small m₁ marks₁ (left s) (left e)) (closure_grade_small m₂ marks₂ (right s) (right e)));
      linked = combined_saturates.linked_only;
    }

-- The grade of a lasso under a strong marking as an outcome: a number of the values that depends on the endless word only. Rules whose
-- grades are outcomes have the same grades exactly if each lasso has the same outcome. Assumes nothing.
use Prim.Native.Nat.{ℕ, ◌≤◌, ◌<◌}
use native.Mathlib.Omega.{arith}
use mathlib.Core.Path.{◌≡◌, sym, subst, ap₂}
use mathlib.Core.Logic.{⊎_elim}
use mathlib.Core.List.{List}
use Rattle.finite.proofs.Numbers.{le_or_lt}
use Rattle.finite.proofs.Highest.{same_above}
use Rattle.theory.specs.Words.{Lasso}
use Rattle.theory.specs.Rules.{Morphism, Lawful, Marking, Rule, level, element, AllReached}
use Rattle.theory.specs.Pairs.{Linked}
use Rattle.theory.specs.Grades.{Graded, StrongMarking, LassosGraded}
use Rattle.theory.specs.Smallest.{SameGrades}
use Rattle.theory.proofs.Strength.{settled_start, settled_cycle, settled_same, accepts_same, started_accepts}
use Rattle.theory.proofs.Closure.{acceptance_passes, strong_acceptance}
use Rattle.theory.proofs.Gradings.{GradedMarks, level_linked, at_least_small, graded_by}
use Rattle.theory.proofs.ClosureGrades.{closure_grade, closure_grade_small, closure_level}
use Rattle.minimality.proofs.Smallest.{outcome, outcome_at_lem, LassoValues, lasso_values, values_outcome}
use Rattle.minimality.proofs.Saturation.{DependsOnWord, GradesAreOutcomes}

-- the grade of the lassos with the values (s, z): that of their settled pair in the closure
unfoldable pub grading : Morphism → Marking → ℕ → ℕ → ℕ
grading m marks s z = closure_grade m marks (settled_start m s z) (settled_cycle m z)

pub grading_small : (m : Morphism) (marks : Marking) (s z : ℕ) → grading m marks s z ≤ 3
unfolding grading
grading_small m marks s z = closure_grade_small m marks (settled_start m s z) (settled_cycle m z)

-- where the values are a linked pair, which is settled, that is one look in the closure
pub grading_linked : {m : Morphism} (marks : Marking) {s e : ℕ} → Lawful m → Linked m s e → grading m marks s e ≡ closure_grade m marks s e
unfolding grading
grading_linked {m} marks law l = ap₂ (closure_grade m marks) (settled_same law l).0 (settled_same law l).1

module _ {m : Morphism} {marks : Marking} (law : Lawful m) (reached : AllReached m) (good : GradedMarks m marks) (strong : StrongMarking m marks) where
  -- a lasso has grade g or more exactly if its outcome is that or more
  pub grading_outcome : GradesAreOutcomes m marks (grading m marks)
  unfolding grading
  grading_outcome g some u v l =
      let k : LassoValues m u v = lasso_values law l in
      let s = settled_start m k.start k.cycle in
      let e = settled_cycle m k.cycle in
      let started = started_accepts {m = m} {P = level g marks} u v l.cycle_some in
      let a = strong_acceptance law reached (level_linked law good some) (strong.at_each g some) k.start_has.over l.cycle_over k.start_has.is k.cycle_has.is in
      let p = acceptance_passes m (level g marks) k.start k.cycle in
      rw (values_outcome (grading m marks) k) (
        λ x. (closure_level law good g s e some (at_least_small law good x)).0 (p.1 (a.0 (started.1 x))),
        λ y. ⊎_elim (λ (h : g ≤ 3). started.0 (a.1 (p.0 ((closure_level law good g s e some h).1 y))))
            (λ h. absurd (omega (arith, closure_grade_small m marks s e))) (le_or_lt g 3),
      )

  -- so its outcome is its grade
  pub grading_graded : {u v : List ℕ} → Lasso m.letters u v → Graded m marks u v (outcome m (grading m marks) u v)
  grading_graded {u} {v} l = graded_by (λ g some. grading_outcome g some u v l)

  -- it depends on the endless word only
  pub grading_depends : DependsOnWord m (grading m marks)
  grading_depends = record {
    same_outcome = λ u v u' v' l l' same. same_above (λ g some. (
      λ h. (grading_outcome g some u' v' l').0 (accepts_same l'.cycle_some same ((grading_outcome g some u v l).1 h)),
      λ h. (grading_outcome g some u v l).0 (accepts_same l.cycle_some (λ i. sym (same i)) ((grading_outcome g some u' v' l').1 h)),
    ));
  }

  -- so the lassos with two values have the grade of those values
  pub grading_lassos : {s z : ℕ} → s < m.size → z < m.size → LassosGraded m marks (element s) z (grading m marks s z)
  grading_lassos {s} {z} hs hz = record {
    start = reached.word_of s hs;
    cycle = reached.word_of z hz;
    graded = λ u v l eu ev.
        subst (Graded m marks u v) (outcome_at_lem (grading m marks) (record { over = l.start_over; is = eu }) (record { over = l.cycle_over; is = ev }))
        (grading_graded l);
  }

module _ (r x : Rule) (acc acc' : ℕ → ℕ → ℕ) (a : GradesAreOutcomes r.morphism r.marks acc) (b : GradesAreOutcomes x.morphism x.marks acc') where
  -- rules with the same grades give each lasso the same outcome
  pub same_outcomes : SameGrades r x → {u v : List ℕ} → Lasso r.morphism.letters u v → outcome r.morphism acc u v ≡ outcome x.morphism acc' u v
  same_outcomes same {u} {v} l = same_above (λ g some.
      (let k = same.both_or_neither g some u v l in
      let l' : Lasso x.morphism.letters u v = subst (λ (n : ℕ). Lasso n u v) same.same_letters l in
      (λ h. (b g some u v l').0 (k.0 ((a g some u v l).1 h)), λ h. (a g some u v l).0 (k.1 ((b g some u v l').1 h)))))

  -- and rules that give each lasso the same outcome have the same grades
  pub outcomes_same : r.morphism.letters ≡ x.morphism.letters
      → ((u v : List ℕ) → Lasso r.morphism.letters u v → outcome r.morphism acc u v ≡ outcome x.morphism acc' u v) → SameGrades r x
  outcomes_same letters same = record {
    same_letters = letters;
    both_or_neither = λ g some u v l.
        (let l' : Lasso x.morphism.letters u v = subst (λ (n : ℕ). Lasso n u v) letters l in
        let e = same u v l in
        (λ h. (b g some u v l').1 (subst (λ (n : ℕ). g ≤ n) e ((a g some u v l).0 h)), λ h. (a g some u v l).1 (subst (λ (n : ℕ). g ≤ n) (sym e) ((b g some u v l').0 h))));
  }

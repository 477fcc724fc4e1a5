-- The grade combined from two: it is at most 3, as they are; and what a combined rule's grades say of one least grade, in the words of document 02,
-- Job 7: "both do, at least one does, or the first does and the second doesn't". Also what each operation leaves out. Assumes nothing.
use Prim.Native.Nat.{ℕ, ◌-◌, ◌≤◌, min, max}
use mathlib.Core.Path.{◌≡◌, refl}
use mathlib.Core.Logic.{◌↔◌, ◌⊎◌, inl, inr, ⊎_elim}
use mathlib.Core.List.{List}
use native.Mathlib.Omega.{arith}
use Rattle.finite.proofs.Numbers.{le_or_lt}
use Rattle.theory.specs.Words.{Lasso}
use Rattle.theory.specs.Grades.{AtLeast, Graded}
use Rattle.theory.proofs.Gradings.{graded_levels}
use Rattle.formats.specs.RuleFile.{letters_of, morphism_of, marking_of}
use Rattle.promises.specs.declared.Operation.{Operation}
use Rattle.promises.specs.declared.Operation.TheVariants.{Both, Either, Without}
use Rattle.promises.specs.Combine.{combined_grade, CombinedTo}

-- combined grades are grades
pub combined_small : (operation : Operation) (a b : ℕ) → a ≤ 3 → b ≤ 3 → combined_grade operation a b ≤ 3
unfolding combined_grade
combined_small Both a b h l = omega arith
combined_small Either a b h l = omega arith
combined_small Without a b h l = omega arith

-- both is the lower grade, whichever rule gives it; either is the higher
pub both_lower : (combined_grade Both 1 2 ≡ 1) × (combined_grade Both 3 2 ≡ 2)
unfolding combined_grade
both_lower = (refl, refl)

pub either_higher : (combined_grade Either 1 2 ≡ 2) × (combined_grade Either 3 2 ≡ 3)
unfolding combined_grade
either_higher = (refl, refl)

-- without takes the second's complement: 3 and 3 make 0, 3 and 1 make 2; and no more than the first's grade
pub without_complement : (combined_grade Without 3 3 ≡ 0) × (combined_grade Without 3 1 ≡ 2) × (combined_grade Without 1 0 ≡ 1)
unfolding combined_grade
without_complement = (refl, refl, refl)

-- a lasso with a grade under each of the two rules, under the combined rule, at a least grade
module _ {first second : List ℕ} {u v : List ℕ} {a b : ℕ} (l : Lasso (letters_of first) u v) (p : Graded (morphism_of first) (marking_of first) u v a)
    (q : Graded (morphism_of second) (marking_of second) u v b) {before after : List ℕ} {end : ℕ} (g : ℕ) (some : 1 ≤ g) where
  pub both_do : (k : CombinedTo first second Both before after end)
      → AtLeast k.rule.morphism k.rule.marks g u v ↔ (AtLeast (morphism_of first) (marking_of first) g u v × AtLeast (morphism_of second) (marking_of second) g u v)
  unfolding combined_grade
  both_do k =
      let r = graded_levels (k.grades u v l a b p q) g some in
      let s = graded_levels p g some in
      let t = graded_levels q g some in
      (λ x. (let h : g ≤ min a b = r.0 x in (s.1 (omega arith), t.1 (omega arith))), λ x. r.1 (omega (arith, s.0 x.0, t.0 x.1)))

  pub at_least_one_does : (k : CombinedTo first second Either before after end)
      → AtLeast k.rule.morphism k.rule.marks g u v ↔ (AtLeast (morphism_of first) (marking_of first) g u v ⊎ AtLeast (morphism_of second) (marking_of second) g u v)
  unfolding combined_grade
  at_least_one_does k =
      let r = graded_levels (k.grades u v l a b p q) g some in
      let s = graded_levels p g some in
      let t = graded_levels q g some in (
        λ x. (let h : g ≤ max a b = r.0 x in ⊎_elim (λ (m : g ≤ a). inl (s.1 m)) (λ m. inr (t.1 (omega arith))) (le_or_lt g a)),
        λ x. r.1 (⊎_elim (λ y. omega (arith, s.0 y)) (λ y. omega (arith, t.0 y)) x),
      )

  -- the second's complement has the grade g or more where the second has not 4 - g or more
  pub first_not_second : g ≤ 3 → (k : CombinedTo first second Without before after end)
      → AtLeast k.rule.morphism k.rule.marks g u v ↔ (AtLeast (morphism_of first) (marking_of first) g u v × (AtLeast (morphism_of second) (marking_of second) (4 - g) u v → ⊥))
  unfolding combined_grade
  first_not_second small k =
      let r = graded_levels (k.grades u v l a b p q) g some in
      let s = graded_levels p g some in
      let t = graded_levels q (4 - g) (omega arith) in (
        λ x. (let h : g ≤ min a (3 - b) = r.0 x in (s.1 (omega arith), λ y. omega (arith, t.0 y))),
        λ x. r.1 (⊎_elim (λ (m : 4 - g ≤ b). absurd (x.1 (t.1 m))) (λ m. omega (arith, s.0 x.0)) (le_or_lt (4 - g) b)),
      )

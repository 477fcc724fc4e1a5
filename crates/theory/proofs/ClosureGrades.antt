-- The closure of graded marks under conjugacy: a pair has the highest grade of its conjugates, and each level of that is the closure of
-- the marks' level. Assumes nothing.
use Prim.Native.Nat.{ℕ, ◌≤◌, ◌<◌}
use native.Mathlib.Omega.{arith}
use mathlib.Core.Path.{◌≡◌}
use mathlib.Core.Logic.{◌↔◌, ◌⊎◌, inl, inr}
use lib.Dec.{T}
use Rattle.finite.proofs.Highest.{highest, highest_le, highest_iff, Falling, same_above}
use Rattle.finite.proofs.Numbers.{le_or_lt}
use Rattle.finite.proofs.Tests.{tests_equal}
use Rattle.theory.specs.Rules.{Morphism, Lawful, Marking, level}
use Rattle.theory.proofs.Strength.{Closed}
use Rattle.theory.proofs.Closure.{closure_test, closure_intro, closure_elim}
use Rattle.theory.proofs.Gradings.{GradedMarks, level_up, level_down, level_falls, level_linked}

-- the highest grade of a conjugate pair, 0 where none is marked
unfoldable pub closure_grade : Morphism → Marking → Marking
closure_grade m marks s e = highest 3 (λ g. closure_test m (level g marks) s e)

pub closure_grade_small : (m : Morphism) (marks : Marking) (s e : ℕ) → closure_grade m marks s e ≤ 3
unfolding closure_grade
closure_grade_small m marks s e = highest_le (λ g. closure_test m (level g marks) s e) 3

module _ {m : Morphism} {marks : Marking} (law : Lawful m) (good : GradedMarks m marks) where
  closed_falls : {s e : ℕ} (g h : ℕ) → g ≤ h → Closed m (level h marks) s e → Closed m (level g marks) s e
  closed_falls g h l c = record {
    to_start = c.to_start;
    to_cycle = c.to_cycle;
    conjugate = c.conjugate;
    has_mark = level_falls marks g h c.to_start c.to_cycle l c.has_mark;
  }

  closure_falls : (s e : ℕ) → Falling (λ g. closure_test m (level g marks) s e)
  closure_falls s e = record {
    falls = λ g h some l t. closure_intro (closed_falls g h l (closure_elim law (level_linked law good (let z : 1 ≤ h = omega arith in z)) s e t));
  }

  -- each level of the closure
  pub closure_level : (g s e : ℕ) → 1 ≤ g → g ≤ 3 → T (closure_test m (level g marks) s e) ↔ (g ≤ closure_grade m marks s e)
  unfolding closure_grade
  closure_level g s e some h = highest_iff (λ g. closure_test m (level g marks) s e) 3 (closure_falls s e) g some h

  -- so its pairs of a grade or more are the closure of the marks' pairs of that grade or more
  pub closure_levels : (g : ℕ) → 1 ≤ g → g ≤ 3 → level g (closure_grade m marks) ≡ closure_test m (level g marks)
  closure_levels g some h i s e = same s e i
    where
      same : (s e : ℕ) → level g (closure_grade m marks) s e ≡ closure_test m (level g marks) s e
      same s e =
          let k = closure_level g s e some h in
          tests_equal (level g (closure_grade m marks) s e) (closure_test m (level g marks) s e)
          (λ t. k.1 (level_down (closure_grade m marks) g s e t)) (λ t. level_up (closure_grade m marks) g s e (k.0 t))

  -- a number of at most 3 that is at least g exactly where the closure of each level has the pair is its highest grade
  pub closure_grade_is : (s e : ℕ) {n : ℕ} → n ≤ 3 → ((g : ℕ) → 1 ≤ g → g ≤ 3 → T (closure_test m (level g marks) s e) ↔ (g ≤ n)) → closure_grade m marks s e ≡ n
  closure_grade_is s e {n} small f = same_above (λ g some. both g some (le_or_lt g 3))
    where
      both : (g : ℕ) → 1 ≤ g → (g ≤ 3) ⊎ (3 < g) → (g ≤ closure_grade m marks s e) ↔ (g ≤ n)
      both g some (inl h) = (λ l. (f g some h).0 ((closure_level g s e some h).1 l), λ l. (closure_level g s e some h).0 ((f g some h).1 l))
      both g some (inr h) = (λ l. absurd (omega (arith, closure_grade_small m marks s e)), λ l. absurd (omega arith))

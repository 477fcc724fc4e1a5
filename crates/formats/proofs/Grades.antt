-- The grade of a pair among the first marks of a section: that of the last of them which is the pair, and 0 where none is. Assumes
-- nothing.
use Prim.Native.Nat.{ℕ, zero, suc, ◌+◌, ◌≤◌, ◌<◌}
use mathlib.Core.Path.{◌≡◌, refl, ap, subst, ◌∙◌}
use mathlib.Core.Bool.{Bool, true, false, cond}
use mathlib.Core.Logic.{◌⊎◌, inl, inr, ⊎_elim}
use mathlib.Core.List.{List}
use native.Mathlib.Omega.{arith}
use native.Mathlib.Numerals.{add-one}
use lib.Dec.{T, eqb}
use mir.Facts.{eqb_yes, yes_eqb}
use Rattle.finite.proofs.Tests.{T_and, T_and_left, T_and_right, T_true, T_false, true_T}
use Rattle.finite.proofs.Numbers.{below_cases}
use Rattle.formats.specs.RuleFile.{mark_start, mark_cycle, mark_grade, is_mark, grade_among, marks_in}
use Rattle.formats.specs.Sections.{two_bytes}

module _ (bytes : List ℕ) (at s e : ℕ) where
  -- the pair of a mark
  pub is_mark_elim : (i : ℕ) → T (is_mark bytes at s e i) → (mark_start bytes at i ≡ s) × (mark_cycle bytes at i ≡ e)
  unfolding is_mark
  is_mark_elim i t = (
    eqb_yes (T_and_left (eqb (mark_start bytes at i) s) (eqb (mark_cycle bytes at i) e) t),
    eqb_yes (T_and_right (eqb (mark_start bytes at i) s) (eqb (mark_cycle bytes at i) e) t),
  )

  pub is_mark_intro : (i : ℕ) → mark_start bytes at i ≡ s → mark_cycle bytes at i ≡ e → T (is_mark bytes at s e i)
  unfolding is_mark
  is_mark_intro i p q = T_and (eqb (mark_start bytes at i) s) (eqb (mark_cycle bytes at i) e) (yes_eqb p) (yes_eqb q)

  -- among none
  pub grade_none : grade_among bytes at 0 s e ≡ 0
  unfolding grade_among
  grade_none = refl

  -- one mark more
  grade_more : (i : ℕ) → grade_among bytes at (i + 1) s e ≡ cond (is_mark bytes at s e i) (mark_grade bytes at i) (grade_among bytes at i s e)
  unfolding grade_among
  grade_more i = rw add-one refl

  chosen : {b : Bool} (i : ℕ) → is_mark bytes at s e i ≡ b
      → cond (is_mark bytes at s e i) (mark_grade bytes at i) (grade_among bytes at i s e) ≡ cond b (mark_grade bytes at i) (grade_among bytes at i s e)
  chosen i p = ap (λ (c : Bool). cond c (mark_grade bytes at i) (grade_among bytes at i s e)) p

  -- which is the pair, or is not
  pub grade_this : (i : ℕ) → T (is_mark bytes at s e i) → grade_among bytes at (i + 1) s e ≡ mark_grade bytes at i
  grade_this i t = grade_more i ∙ chosen i (T_true (is_mark bytes at s e i) t)

  pub grade_other : (i : ℕ) → (T (is_mark bytes at s e i) → ⊥) → grade_among bytes at (i + 1) s e ≡ grade_among bytes at i s e
  grade_other i f = grade_more i ∙ chosen i (T_false (is_mark bytes at s e i) f)

  -- the mark that gives the pair its grade
  pub record MarkOf (count : ℕ) : Type 0 where
    pub index : ℕ
    pub below : index < count
    pub is_of_marks : T (is_mark bytes at s e index)
    pub its_grade : grade_among bytes at count s e ≡ mark_grade bytes at index

  -- no mark is the pair
  pub record NoMark (count : ℕ) : Type 0 where
    pub none : (i : ℕ) → i < count → T (is_mark bytes at s e i) → ⊥
    pub without_grade : grade_among bytes at count s e ≡ 0

  pub mark_of : (count : ℕ) → MarkOf count ⊎ NoMark count
  unfolding grade_among
  mark_of zero = inr (record { none = λ i h t. omega arith; without_grade = refl })
  mark_of (suc i) = go (is_mark bytes at s e i) refl (mark_of i)
    where
      go : (b : Bool) → is_mark bytes at s e i ≡ b → MarkOf i ⊎ NoMark i → MarkOf (suc i) ⊎ NoMark (suc i)
      go true p r = inl (record { index = i; below = omega arith; is_of_marks = true_T p; its_grade = chosen i p })
      go false p (inl k) = inl (record { index = k.index; below = omega (arith, k.below); is_of_marks = k.is_of_marks; its_grade = chosen i p ∙ k.its_grade })
      go false p (inr k) = inr (record {
        none = λ j h t. ⊎_elim (λ (q : j ≡ i). subst T (ap (is_mark bytes at s e) q ∙ p) t) (λ l. k.none j l t) (below_cases h);
        without_grade = chosen i p ∙ k.without_grade;
      })

  -- a pair with a grade is one of the marks
  pub grade_mark : (count : ℕ) → 1 ≤ grade_among bytes at count s e → MarkOf count
  grade_mark count h = ⊎_elim (λ k. k) (λ k. absurd (let z : ⊥ = omega (arith, k.without_grade) in z)) (mark_of count)

  -- where no grade of the marks is 0, each mark has a grade
  pub grade_some : (count i : ℕ) → ((j : ℕ) → j < count → 1 ≤ mark_grade bytes at j) → i < count → T (is_mark bytes at s e i) → 1 ≤ grade_among bytes at count s e
  grade_some count i some h t =
      ⊎_elim (λ k. omega (arith, k.its_grade, some k.index k.below)) (λ k. absurd (k.none i h t)) (mark_of count)

  -- and no pair has a higher grade than the marks
  pub grade_at_most : (count bound : ℕ) → ((j : ℕ) → j < count → mark_grade bytes at j ≤ bound) → grade_among bytes at count s e ≤ bound
  grade_at_most count bound most =
      ⊎_elim (λ k. omega (arith, k.its_grade, most k.index k.below)) (λ k. omega (arith, k.without_grade)) (mark_of count)

-- the grades of the first marks together: a number that none of them is above
grades_together : List ℕ → ℕ → ℕ → ℕ
grades_together bytes at zero = 0
grades_together bytes at (suc i) = mark_grade bytes at i + grades_together bytes at i

together_above : (bytes : List ℕ) (at count j : ℕ) → j < count → mark_grade bytes at j ≤ grades_together bytes at count
unfolding grades_together
together_above bytes at zero j h = absurd (let z : ⊥ = omega arith in z)
together_above bytes at (suc i) j h =
    ⊎_elim (λ (q : j ≡ i). subst (λ (k : ℕ). mark_grade bytes at j ≤ mark_grade bytes at k + grades_together bytes at i) q (omega arith))
    (λ l. omega (arith, together_above bytes at i j l)) (below_cases h)

-- so the grades of a section are bounded, whatever its bytes are
pub grades_bounded : (bytes : List ℕ) (at : ℕ) → (bound : ℕ) × ((s e : ℕ) → marks_in bytes at s e ≤ bound)
unfolding marks_in
grades_bounded bytes at =
    (grades_together bytes at (two_bytes bytes at), λ s e. grade_at_most bytes at s e (two_bytes bytes at) _ (together_above bytes at (two_bytes bytes at)))

-- What the checks of a marks section mean once they pass, for the section of a rule file and for one that is checked against
-- another file's table: its marks are linked and differ, and so its marking has linked pairs only, and grades. Assumes nothing.
use Prim.Native.Nat.{ℕ, zero, suc, ◌+◌, ◌≤◌, ◌<◌}
use mathlib.Core.Path.{◌≡◌, refl, subst, subst₂}
use mathlib.Core.Logic.{⊎_elim}
use mathlib.Core.List.{List}
use native.Mathlib.Omega.{arith}
use lib.Dec.{leb→le}
use Rattle.answer.specs.Checks.{passed, FirstFailure}
use Rattle.answer.proofs.Order.{passes_head, passes_tail}
use Rattle.finite.proofs.Tests.{T_dec}
use Rattle.finite.proofs.Numbers.{le_or_lt}
use Rattle.theory.specs.Rules.{Morphism, level}
use Rattle.theory.specs.Pairs.{Linked, LinkedOnly}
use Rattle.theory.proofs.Closure.{linked_test, linked_intro, linked_elim}
use Rattle.formats.specs.Sections.{two_bytes, InRange}
use Rattle.formats.specs.RuleFile.{mark_start, mark_cycle, mark_grade, marks_in}
use Rattle.formats.specs.RuleChecks.{mark_checks}
use Rattle.formats.proofs.Grades.{is_mark_elim, grade_mark, grade_at_most}

-- the i-th mark is linked, and no earlier one is the same pair
pub record GoodMark (m : Morphism) (bytes : List ℕ) (at i : ℕ) : Type 0 where
  pub linked : Linked m (mark_start bytes at i) (mark_cycle bytes at i)
  pub fresh : (j : ℕ) → j < i → mark_start bytes at j ≡ mark_start bytes at i → mark_cycle bytes at j ≡ mark_cycle bytes at i → ⊥

-- the first i marks are good
pub record GoodMarks (m : Morphism) (bytes : List ℕ) (at i : ℕ) : Type 0 where
  pub good : (j : ℕ) → j < i → GoodMark m bytes at j

module _ {m : Morphism} {bytes : List ℕ} {at : ℕ} where
  -- a mark that passes 7 and 8 is linked and new
  good_of : (input i count : ℕ) → FirstFailure (mark_checks input m bytes at i (suc count)) passed → GoodMark m bytes at i
  unfolding mark_checks
  good_of input i count f = record {
    linked =
        ⊎_elim (linked_elim m (mark_start bytes at i) (mark_cycle bytes at i))
        (λ g. absurd ((passes_head f).nowhere _ (record { unlinked = λ l. g (linked_intro l); is_place = refl })))
        (T_dec (linked_test m (mark_start bytes at i) (mark_cycle bytes at i)));
    fresh = λ j h p q. (passes_head (passes_tail f)).nowhere _ (record { earlier = j; before = h; same_start = p; same_cycle = q; is_place = refl });
  }

  -- so is each from the i-th on
  goods_of : (input i count : ℕ) → FirstFailure (mark_checks input m bytes at i count) passed → (l : ℕ) → i ≤ l → l < i + count → GoodMark m bytes at l
  unfolding mark_checks
  goods_of input i zero f l a b = absurd (let z : ⊥ = omega arith in z)
  goods_of input i (suc count) f l a b =
      ⊎_elim (λ h. goods_of input (suc i) count (passes_tail (passes_tail f)) l h (omega arith))
      (λ h. subst (GoodMark m bytes at) (let e : i ≡ l = omega arith in e) (good_of input i count f))
      (le_or_lt (suc i) l)

  -- the marks pass: they are linked and new
  pub passed_marks : (input count : ℕ) → FirstFailure (mark_checks input m bytes at 0 count) passed → GoodMarks m bytes at count
  passed_marks input count f = record { good = λ j h. goods_of input 0 count f j (omega arith) (omega arith) }

-- so good marks make a marking of linked pairs
pub marking_linked : {m : Morphism} (bytes : List ℕ) (at : ℕ) → GoodMarks m bytes at (two_bytes bytes at) → LinkedOnly m (level 1 (marks_in bytes at))
unfolding level marks_in
marking_linked {m} bytes at g = record {
  linked = λ s e hs he t.
      let k = grade_mark bytes at s e (two_bytes bytes at) (leb→le 1 _ t) in
      let p = is_mark_elim bytes at s e k.index k.is_of_marks in
      subst₂ (Linked m) p.0 p.1 (g.good k.index k.below).linked;
}

-- and no pair has a higher grade than the marks
pub marking_at_most : (bytes : List ℕ) (at : ℕ) → ((i : ℕ) → i < two_bytes bytes at → InRange 1 4 (mark_grade bytes at i)) → (s e : ℕ) → marks_in bytes at s e ≤ 3
unfolding marks_in
marking_at_most bytes at graded s e = grade_at_most bytes at s e (two_bytes bytes at) 3 (λ i h. omega (arith, (graded i h).below))

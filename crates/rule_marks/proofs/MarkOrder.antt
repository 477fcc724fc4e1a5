-- The checks of the marks, mark by mark: where the first i marks are linked and new, the others decide. Assumes nothing.
use Prim.Native.Nat.{ℕ, zero, suc, ◌+◌, ◌-◌, ◌*◌, ◌≤◌, ◌<◌}
use mathlib.Core.Path.{◌≡◌, refl, subst}
use mathlib.Core.Bool.{Bool, true, false, not}
use mathlib.Core.List.{List}
use native.Mathlib.Omega.{arith}
use native.Mathlib.Nat.{add-zero}
use borrow.Author.Count.{below_more}
use Rattle.answer.specs.declared.Refusal.TheVariants.{NotLinked, Duplicate}
use Rattle.answer.specs.Checks.{Verdict, passed, refused, FirstFailure}
use Rattle.answer.proofs.Order.{first_passes, first_fails, none_left}
use Rattle.theory.specs.Rules.{Morphism}
use Rattle.theory.specs.Pairs.{Linked}
use Rattle.formats.specs.RuleFile.{mark_start, mark_cycle, mark_width}
use Rattle.rule_marks.specs.Faults.{LinkedAnswer}
use Rattle.formats.specs.RuleChecks.{UnlinkedAt, RepeatedAt, mark_checks}
use Rattle.formats.proofs.MarksPassed.{GoodMark, GoodMarks}

pub no_marks : (m : Morphism) (bytes : List ℕ) (at : ℕ) → GoodMarks m bytes at 0
no_marks m bytes at = record { good = λ j h. absurd (let z : ⊥ = omega arith in z) }

module _ {m : Morphism} {bytes : List ℕ} {at : ℕ} where
  -- a good mark hands on
  good_passes : (input i count : ℕ) {v : Verdict} → GoodMark m bytes at i → FirstFailure (mark_checks input m bytes at (suc i) count) v
      → FirstFailure (mark_checks input m bytes at i (suc count)) v
  unfolding mark_checks
  good_passes input i count g f =
      first_passes (record { nowhere = λ place u. u.unlinked g.linked })
      (first_passes (record { nowhere = λ place r. g.fresh r.earlier r.before r.same_start r.same_cycle }) f)

  -- so do good marks from the i-th on
  goods_pass : (input j i count : ℕ) {v : Verdict} → ((l : ℕ) → i ≤ l → l < i + j → GoodMark m bytes at l)
      → FirstFailure (mark_checks input m bytes at (i + j) count) v → FirstFailure (mark_checks input m bytes at i (j + count)) v
  goods_pass input zero i count {v} g f =
      subst (λ (c : ℕ). FirstFailure (mark_checks input m bytes at i c) v) (let e : count ≡ 0 + count = omega arith in e)
      (subst (λ (c : ℕ). FirstFailure (mark_checks input m bytes at c count) v) (add-zero i) f)
  goods_pass input (suc j) i count {v} g f =
      subst (λ (c : ℕ). FirstFailure (mark_checks input m bytes at i c) v) (let e : suc (j + count) ≡ suc j + count = omega arith in e)
      (good_passes input i (j + count) (g i (omega arith) (omega arith))
      (goods_pass input j (suc i) count (λ l h h'. g l (omega arith) (omega arith))
      (subst (λ (c : ℕ). FirstFailure (mark_checks input m bytes at c count) v) (let e : i + suc j ≡ suc i + j = omega arith in e) f)))

  -- with the first i marks good, what the rest says of the count is the verdict
  pub rest_decides : (input count i : ℕ) {v : Verdict} → i ≤ count → GoodMarks m bytes at i → FirstFailure (mark_checks input m bytes at i (count - i)) v
      → FirstFailure (mark_checks input m bytes at 0 count) v
  rest_decides input count i {v} h g f =
      subst (λ (c : ℕ). FirstFailure (mark_checks input m bytes at 0 c) v) (let e : i + (count - i) ≡ count = omega arith in e)
      (goods_pass input i 0 (count - i) (λ l a b. g.good l (omega arith))
      (subst (λ (c : ℕ). FirstFailure (mark_checks input m bytes at c (count - i)) v) (let e : i ≡ 0 + i = omega arith in e) f))

  module _ (input count i : ℕ) (h : i < count) (g : GoodMarks m bytes at i) where
    some_left : count - i ≡ suc (count - suc i)
    some_left = omega arith

    -- an unlinked mark
    pub mark_unlinked : (Linked m (mark_start bytes at i) (mark_cycle bytes at i) → ⊥)
        → FirstFailure (mark_checks input m bytes at 0 count) (refused NotLinked input (at + (2 + mark_width * i)))
    unfolding mark_checks
    mark_unlinked u =
        rest_decides input count i (omega arith) g
        (rw some_left (first_fails (record { refusal = NotLinked; input = input; Fails = UnlinkedAt m bytes at i }) (record { unlinked = u; is_place = refl })))

    -- a linked mark that stood before
    pub mark_repeated : Linked m (mark_start bytes at i) (mark_cycle bytes at i) → (j : ℕ) → j < i → mark_start bytes at j ≡ mark_start bytes at i
        → mark_cycle bytes at j ≡ mark_cycle bytes at i → FirstFailure (mark_checks input m bytes at 0 count) (refused Duplicate input (at + (2 + mark_width * i)))
    unfolding mark_checks
    mark_repeated l j b es ec =
        rest_decides input count i (omega arith) g
        (rw some_left
        (first_passes (record { nowhere = λ place u. u.unlinked l })
        (first_fails (record { refusal = Duplicate; input = input; Fails = RepeatedAt bytes at i })
        (record { earlier = j; before = b; same_start = es; same_cycle = ec; is_place = refl }))))

  -- all marks are good
  pub marks_pass : (input count : ℕ) → GoodMarks m bytes at count → FirstFailure (mark_checks input m bytes at 0 count) passed
  unfolding mark_checks
  marks_pass input count g =
      rest_decides input count count (omega arith) g (subst (λ (c : ℕ). FirstFailure (mark_checks input m bytes at count c) passed) (let e : 0 ≡ count - count = omega arith in e) none_left)

  -- one more good mark
  pub good_more : {i : ℕ} → GoodMarks m bytes at i → GoodMark m bytes at i → GoodMarks m bytes at (i + 1)
  good_more {i} g one = record { good = below_more (GoodMark m bytes at) i g.good one }

module _ (m : Morphism) (s e : ℕ) where
  -- what a test for a linked pair says
  pub said_unlinked : (b : Bool) → LinkedAnswer m s e b → not b ≡ true → Linked m s e → ⊥
  said_unlinked true k p = absurd (let z : ◌≡◌ {A = ℕ} 0 1 = cc in let w : ⊥ = omega arith in w)
  said_unlinked false k p = k

  pub said_linked : (b : Bool) → LinkedAnswer m s e b → not b ≡ false → Linked m s e
  said_linked true k p = k
  said_linked false k p = absurd (let z : ◌≡◌ {A = ℕ} 0 1 = cc in let w : ⊥ = omega arith in w)

-- Two answers of `first_letter`, or of `constant`, for the same numbers and buffer are one: of the smallest rules with the same grades only one is numbered by
-- first words. Assumes nothing.
use Prim.Native.Nat.{ℕ, ◌≤◌}
use mathlib.Core.Path.{◌≡◌, sym, ◌∙◌, subst}
use mathlib.Core.Logic.{◌↔◌}
use mathlib.Core.List.{List}
use Rattle.finite.proofs.Numbers.{Compared, lesser, level, greater, compared_numbers}
use Rattle.answer.proofs.Order.{AllSingle, Single, single_nil, single_at, single_cons}
use Rattle.theory.specs.Words.{Lasso}
use Rattle.theory.specs.Rules.{Rule}
use Rattle.theory.specs.Smallest.{SameGrades, Reduction}
use Rattle.theory.proofs.SameGrades.{same_self}
use Rattle.formats.proofs.Buffers.{buffer_single}
use Rattle.promises.proofs.SameReductions.{reductions_file}
use Rattle.promises.specs.declared.Written.{Written}
use Rattle.temporal_promises.specs.FirstLetter.{LettersOutOfRangeAt, GradeOutOfRangeAt, ForeignInSetAt, set_check, first_letter_checks, constant_checks, SmallestFor, FirstLetterPromise, ConstantPromise}
use Rattle.temporal_promises.proofs.OneFormed.{OneFile, one_formed}

-- the least letter of the set that is not below the number of letters is one
set_single : (letters set : ℕ) → Single (set_check letters set)
set_single letters set = record { one_place = λ p q a b. go p q a b (compared_numbers p q) }
  where
    go : (p q : ℕ) → ForeignInSetAt letters set p → ForeignInSetAt letters set q → Compared p q → p ≡ q
    go p q a b (lesser h) = absurd (b.least p a.foreign h a.is_in_set)
    go p q a b (level h) = h
    go p q a b (greater h) = absurd (a.least q b.foreign h b.is_in_set)

pub first_letter_single : (letters set grade : ℕ) (out : List ℕ) → AllSingle (first_letter_checks letters set grade out)
first_letter_single letters set grade out =
    buffer_single (single_cons (single_at (λ place (a : LettersOutOfRangeAt letters place). a.is_place))
    (single_cons (single_at (λ place (a : GradeOutOfRangeAt grade place). a.is_place)) (single_cons (set_single letters set) single_nil)))

pub constant_single : (letters grade : ℕ) (out : List ℕ) → AllSingle (constant_checks letters grade out)
constant_single letters grade out =
    buffer_single (single_cons (single_at (λ place (a : LettersOutOfRangeAt letters place). a.is_place))
    (single_cons (single_at (λ place (a : GradeOutOfRangeAt grade place). a.is_place)) single_nil))

-- the smallest rules of two meanings that are alike have the same grades
pub meaning_grades : {letters : ℕ} {Has Has' : ℕ → List ℕ → List ℕ → Type 0} {x y : Rule}
    → ((h : ℕ) → 1 ≤ h → (u v : List ℕ) → Lasso letters u v → Has h u v ↔ Has' h u v) → SmallestFor letters Has x → SmallestFor letters Has' y → SameGrades x y
meaning_grades {letters} alike p q = record {
  same_letters = p.same_letters ∙ sym q.same_letters;
  both_or_neither = λ h some u v l.
      let l' : Lasso letters u v = subst (λ (n : ℕ). Lasso n u v) p.same_letters l in
      let a = p.grades h some u v l' in
      let b = q.grades h some u v l' in
      let c = alike h some u v l' in
      (λ k. b.1 (c.0 (a.0 k)), λ k. a.1 (c.1 (b.0 k)));
}

module _ {letters : ℕ} {Has : ℕ → List ℕ → List ℕ → Type 0} where
  pub own_reduction : {x : Rule} → SmallestFor letters Has x → Reduction x x
  own_reduction {x} p = record { same = same_self x; smallest = p.smallest; marks = p.marks }

  pub smallest_file : OneFile (SmallestFor letters Has)
  smallest_file = record { same = λ x y p q. reductions_file (meaning_grades (λ h some u v l. (λ k. k, λ k. k)) p q) (own_reduction p) (own_reduction q) p.numbered q.numbered }

pub one_first_letter : {letters set grade : ℕ} {before after after' : List ℕ} (a b : Written) → FirstLetterPromise letters set grade before after a
    → FirstLetterPromise letters set grade before after' b → (a ≡ b) × (after ≡ after')
one_first_letter {letters} {set} {grade} {before} {after} {after'} a b p q =
    one_formed smallest_file before after after' (first_letter_single letters set grade before) a b p.refusal q.refusal p.answered q.answered

pub one_constant : {letters grade : ℕ} {before after after' : List ℕ} (a b : Written) → ConstantPromise letters grade before after a
    → ConstantPromise letters grade before after' b → (a ≡ b) × (after ≡ after')
one_constant {letters} {grade} {before} {after} {after'} a b p q =
    one_formed smallest_file before after after' (constant_single letters grade before) a b p.refusal q.refusal p.answered q.answered

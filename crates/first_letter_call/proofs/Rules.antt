-- The rules that are written are the smallest with their grades. Assumes nothing.
use Prim.Native.Nat.{ℕ, zero, suc, ◌≤◌, ◌<◌}
use native.Mathlib.Omega.{arith}
use mathlib.Core.Path.{◌≡◌, refl, sym, ap, subst, ◌∙◌}
use mathlib.Core.Bool.{Bool, true, false, cond}
use mathlib.Core.Logic.{◌↔◌}
use mathlib.Core.List.{List}
use lib.Dec.{T, eqb}
use Rattle.finite.proofs.Numbers.{Compared, lesser, level, greater, compared_numbers}
use Rattle.finite.proofs.Tests.{true_T}
use Rattle.theory.specs.Words.{endless}
use Rattle.formats.proofs.ReadBack.{written_rule}
use Rattle.temporal_promises.specs.Formed.{WrittenAs}
use Rattle.temporal_promises.specs.FirstLetter.{in_set, SmallestFor, FirstLetterHas, ConstantHas}
use Rattle.first_letter_rule.proofs.FirstLetters.{FirstElements, first_small, first_lawful, first_reached, first_saturates, first_rule, first_smallest, first_grades, first_numbered}
use Rattle.first_letter_call.specs.Elements.{element_in, grade_in, FirstOther}
use Rattle.first_letter_call.specs.Writing.{RuleWritten}

-- ---- the elements

-- one element
one_elements : {k : ℕ} (grade : ℕ) → 1 ≤ k → FirstElements 1 k (λ x. 0) (λ s. grade)
one_elements grade some = record {
  inside = λ x h. omega arith;
  first = λ s. 0;
  is_letter = λ s h. omega arith;
  its_element = λ s h. omega arith;
  least = λ s x h l e. omega arith;
  increasing = λ s t h l. absurd (omega arith);
  apart = λ s t hs ht e. omega arith;
}

element_zero : (set : ℕ) → element_in set 0 ≡ 0
unfolding element_in
element_zero set = go (in_set set 0)
  where
    go : (b : Bool) → ◌≡◌ {A = ℕ} (cond b (cond b 0 1) (cond b 1 0)) 0
    go true = refl
    go false = refl

element_small : (set x : ℕ) → element_in set x < 2
unfolding element_in
element_small set x = go (in_set set 0) (in_set set x)
  where
    go : (b c : Bool) → cond b (cond c 0 1) (cond c 1 0) < 2
    go true true = omega arith
    go true false = omega arith
    go false true = omega arith
    go false false = omega arith

-- two elements, of which the letter r is the first to have the second
module _ {set k r grade : ℕ} (o : FirstOther set k r) (l : r < k) (some : 1 ≤ grade) where
  first : ℕ → ℕ
  first zero = 0
  first (suc s) = r

  grades_apart : (s t : ℕ) → s < 2 → t < 2 → grade_in set grade s ≡ grade_in set grade t → s ≡ t
  unfolding grade_in
  grades_apart s t hs ht e = go (in_set set 0) s t hs ht e
    where
      go : (b : Bool) (s t : ℕ) → s < 2 → t < 2 → cond (eqb s 0) (cond b grade 0) (cond b 0 grade) ≡ cond (eqb t 0) (cond b grade 0) (cond b 0 grade) → s ≡ t
      go true zero zero hs ht e = refl
      go true zero (suc zero) hs ht e = absurd (omega arith)
      go true zero (suc (suc t)) hs ht e = absurd (omega arith)
      go true (suc zero) zero hs ht e = absurd (omega arith)
      go true (suc zero) (suc zero) hs ht e = refl
      go true (suc zero) (suc (suc t)) hs ht e = absurd (omega arith)
      go true (suc (suc s)) t hs ht e = absurd (omega arith)
      go false zero zero hs ht e = refl
      go false zero (suc zero) hs ht e = absurd (omega arith)
      go false zero (suc (suc t)) hs ht e = absurd (omega arith)
      go false (suc zero) zero hs ht e = absurd (omega arith)
      go false (suc zero) (suc zero) hs ht e = refl
      go false (suc zero) (suc (suc t)) hs ht e = absurd (omega arith)
      go false (suc (suc s)) t hs ht e = absurd (omega arith)

  pub two_elements : FirstElements 2 k (element_in set) (grade_in set grade)
  unfolding first
  two_elements = record {
    inside = λ x h. element_small set x;
    first = first;
    is_letter = letter;
    its_element = own;
    least = least;
    increasing = increasing;
    apart = grades_apart;
  }
    where
      letter : (s : ℕ) → s < 2 → first s < k
      letter zero h = omega arith
      letter (suc s) h = l

      own : (s : ℕ) → s < 2 → element_in set (first s) ≡ s
      own zero h = element_zero set
      own (suc zero) h = o.here l
      own (suc (suc s)) h = absurd (omega arith)

      least : (s x : ℕ) → s < 2 → x < k → element_in set x ≡ s → first s ≤ x
      least zero x h g e = omega arith
      least (suc s) x h g e = go (compared_numbers r x)
        where
          go : Compared r x → r ≤ x
          go (lesser q) = omega arith
          go (level q) = omega arith
          go (greater q) = absurd (omega (arith, o.before x q, e))

      increasing : (s t : ℕ) → s < t → t < 2 → first s < first t
      increasing zero (suc zero) h g = go r refl
        where
          go : (q : ℕ) → r ≡ q → 0 < r
          go zero e = absurd (omega (arith, sym (o.here l) ∙ ap (element_in set) e ∙ element_zero set))
          go (suc q) e = omega arith
      increasing zero zero h g = absurd (omega arith)
      increasing zero (suc (suc t)) h g = absurd (omega arith)
      increasing (suc s) zero h g = absurd (omega arith)
      increasing (suc s) (suc zero) h g = absurd (omega arith)
      increasing (suc s) (suc (suc t)) h g = absurd (omega arith)

-- ---- the rule that was written

module _ {n k : ℕ} {image grade : ℕ → ℕ} {Has : ℕ → List ℕ → List ℕ → Type 0} (f : FirstElements n k image grade) (some : 1 ≤ n) (few : n ≤ 2) (letters_some : 1 ≤ k) (letters_small : k ≤ 16)
    (grades : (s : ℕ) → s < n → grade s ≤ 3) (same : (h : ℕ) → 1 ≤ h → (u v : List ℕ) → endless u v 0 < k → (h ≤ grade (image (endless u v 0))) ↔ Has h u v) where
  makes : SmallestFor k Has (first_rule f)
  makes = record {
    same_letters = refl;
    grades = λ h one u v l.
        let a = first_grades f h one u v l in
        let b = same h one u v (first_small u v l) in
        (λ x. b.0 (a.0 x), λ x. a.1 (b.1 x));
    smallest = first_smallest f;
    numbered = first_numbered f;
    marks = (first_saturates f).marks_grades;
  }

  pub written_first : {before after : List ℕ} {end : ℕ} → RuleWritten n k image grade before after end → WrittenAs (SmallestFor k Has) before after end
  written_first w = record {
    rule = first_rule f;
    makes = makes;
    written = written_rule _ _ (record { some = some; small = omega arith; letters_some = letters_some; letters_small = letters_small })
        (record { grades = λ s e hs he. grades s hs }) (first_lawful f) (first_saturates f).linked_only (first_reached f) w.front;
  }

-- ---- the grades

-- a letter with the element 0 is in the set exactly if letter 0 is
alike : (set x : ℕ) → element_in set x ≡ 0 → in_set set x ≡ in_set set 0
unfolding element_in
alike set x e = go (in_set set 0) (in_set set x) e
  where
    go : (b c : Bool) → ◌≡◌ {A = ℕ} (cond b (cond c 0 1) (cond c 1 0)) 0 → c ≡ b
    go true true e = refl
    go true false e = absurd (omega arith)
    go false true e = absurd (omega arith)
    go false false e = refl

module _ (set grade : ℕ) where
  -- the grade of a letter's element is that of the letter
  grade_is : (x : ℕ) → grade_in set grade (element_in set x) ≡ cond (in_set set x) grade 0
  unfolding grade_in element_in
  grade_is x = go (in_set set 0) (in_set set x)
    where
      go : (b c : Bool) → ◌≡◌ {A = ℕ} (cond (eqb (cond b (cond c 0 1) (cond c 1 0)) 0) (cond b grade 0) (cond b 0 grade)) (cond c grade 0)
      go true true = refl
      go true false = refl
      go false true = refl
      go false false = refl

  small_grade : grade ≤ 3 → (s : ℕ) → grade_in set grade s ≤ 3
  unfolding grade_in
  small_grade few s = go (eqb s 0) (in_set set 0)
    where
      go : (a b : Bool) → cond a (cond b grade 0) (cond b 0 grade) ≤ 3
      go true true = few
      go true false = omega arith
      go false true = omega arith
      go false false = few

has : (grade h : ℕ) → 1 ≤ h → (b : Bool) → (h ≤ cond b grade 0) ↔ (T b × (h ≤ grade))
has grade h one true = (λ x. (tt, x), λ x. x.1)
has grade h one false = (λ x. absurd (omega arith), λ x. absurd x.0)

module _ {k : ℕ} (some : 1 ≤ k) (small : k ≤ 16) {before after : List ℕ} {end : ℕ} where
  -- of a constant
  pub written_constant : {grade : ℕ} → grade ≤ 3 → RuleWritten 1 k (λ x. 0) (λ s. grade) before after end → WrittenAs (SmallestFor k (ConstantHas grade)) before after end
  written_constant {grade} few w = written_first (one_elements grade some) (omega arith) (omega arith) some small (λ s h. few) (λ h one u v l. (λ x. x, λ x. x)) w

  module _ (set grade : ℕ) where
    -- no lasso has a grade from 1 on
    nothing : ((h : ℕ) → 1 ≤ h → (u v : List ℕ) → endless u v 0 < k → FirstLetterHas set grade h u v → ⊥) → RuleWritten 1 k (λ x. 0) (λ s. 0) before after end
        → WrittenAs (SmallestFor k (FirstLetterHas set grade)) before after end
    nothing none w = written_first (one_elements 0 some) (omega arith) (omega arith) some small (λ s h. omega arith) (λ h one u v l. (λ x. absurd (omega arith), λ x. absurd (none h one u v l x))) w

    pub written_zero : grade ≡ 0 → RuleWritten 1 k (λ x. 0) (λ s. 0) before after end → WrittenAs (SmallestFor k (FirstLetterHas set grade)) before after end
    written_zero e w = nothing (λ h one u v l x. omega (arith, x.1)) w

    -- all letters are alike
    pub written_none : {r : ℕ} {b : Bool} → FirstOther set k r → k ≤ r → b ≡ in_set set 0 → b ≡ false → RuleWritten 1 k (λ x. 0) (λ s. 0) before after end
        → WrittenAs (SmallestFor k (FirstLetterHas set grade)) before after end
    written_none o all e f w = nothing (λ h one u v l x. subst T (alike set (endless u v 0) (o.before (endless u v 0) (omega arith)) ∙ sym e ∙ f) x.0) w

    pub written_every : {r : ℕ} {b : Bool} → FirstOther set k r → k ≤ r → b ≡ in_set set 0 → b ≡ true → grade ≤ 3 → RuleWritten 1 k (λ x. 0) (λ s. grade) before after end
        → WrittenAs (SmallestFor k (FirstLetterHas set grade)) before after end
    written_every o all e t few w =
        written_first (one_elements grade some) (omega arith) (omega arith) some small (λ s h. few)
        (λ h one u v l. (λ x. (true_T (alike set (endless u v 0) (o.before (endless u v 0) (omega arith)) ∙ sym e ∙ t), x), λ x. x.1)) w

    -- some are not
    pub written_other : {r : ℕ} → FirstOther set k r → r < k → 1 ≤ grade → grade ≤ 3 → RuleWritten 2 k (element_in set) (grade_in set grade) before after end
        → WrittenAs (SmallestFor k (FirstLetterHas set grade)) before after end
    written_other o l one few w =
        written_first (two_elements o l one) (omega arith) (omega arith) some small (λ s h. small_grade set grade few s)
        (λ h least u v q.
        (let e = has grade h least (in_set set (endless u v 0)) in
        (λ x. e.0 (subst (λ (i : ℕ). h ≤ i) (grade_is set grade (endless u v 0)) x), λ x. subst (λ (i : ℕ). h ≤ i) (sym (grade_is set grade (endless u v 0))) (e.1 x)))) w

-- The two values of a word with a letter behind it, and words with the same two values. Assumes nothing.
use Prim.Native.Nat.{ℕ, ◌≤◌, ◌<◌}
use native.Mathlib.Omega.{arith}
use native.Mathlib.Decide.{ℕ_discrete}
use mathlib.Core.Path.{◌≡◌, refl, sym, ap, ap₂, ◌∙◌}
use mathlib.Core.Logic.{◌⊎◌, inl, inr, ⊎_elim, ◌≢◌}
use mathlib.Core.List.{List, [], ◌∷◌, ◌++◌}
use borrow.Author.Tests.{ne_eqb}
use Rattle.theory.specs.Words.{Over, over_nil, over_cons}
use Rattle.theory.specs.Rules.{Morphism, Lawful, Value, none, element, join, value}
use Rattle.theory.proofs.Words.{over_right}
use Rattle.theory.proofs.Values.{element_same, element_apart, value_append, inside_of}
use Rattle.temporal.specs.Nexts.{behind_first, NextClassOf, SameNextClass}
use Rattle.temporal.proofs.WordClasses.{Word}
use Rattle.temporal.proofs.NextClasses.{tail_append}
use Rattle.promises.specs.Monitor.{value_of}
use Rattle.next_list.specs.Pairs.{ValueNeeds, ValueBehind}

-- ---- the values that numbers stand for

pub value_none : value_of 64 ≡ none
unfolding value_of
value_none = refl

pub value_other : {s : ℕ} → s ≢ 64 → value_of s ≡ element s
unfolding value_of
value_other {s} h = rw (ne_eqb s 64 h) refl

-- no two numbers stand for one value
pub value_same : (s t : ℕ) → value_of s ≡ value_of t → s ≡ t
value_same s t e = go (ℕ_discrete s 64) (ℕ_discrete t 64)
  where
    go : Dec (s ≡ 64) → Dec (t ≡ 64) → s ≡ t
    go (yes f) (yes g) = f ∙ sym g
    go (yes f) (no g) = absurd (element_apart (sym (sym (ap value_of f ∙ value_none) ∙ e ∙ value_other g)))
    go (no f) (yes g) = absurd (element_apart (sym (value_other f) ∙ e ∙ ap value_of g ∙ value_none))
    go (no f) (no g) = element_same (sym (value_other f) ∙ e ∙ value_other g)

-- ---- a letter behind a word

-- the ways of the code
module _ {m : Morphism} (small : m.size ≤ 64) {value element' : ℕ} where
  pub behind_none : value ≡ 64 → element' < m.size → ValueBehind m value element' element'
  unfolding join
  behind_none e h = record {
    is = value_other (λ f. omega arith) ∙ sym (ap (λ x. join m x (element element')) (ap value_of e ∙ value_none));
    inside = h;
  }

  pub behind_some : value ≢ 64 → m.product value element' < m.size → ValueBehind m value element' (m.product value element')
  unfolding join
  behind_some f h = record {
    is = value_other (λ e. omega arith) ∙ sym (ap (λ x. join m x (element element')) (value_other f));
    inside = h;
  }

-- a value that is not none is an element
pub some_inside : {n value element' : ℕ} → ValueNeeds n value element' → value ≢ 64 → value < n
some_inside p f = ⊎_elim (λ e. absurd (f e)) (λ h. h) p.value_known

module _ {m : Morphism} (law : Lawful m) where
  letter_value : (x : ℕ) → value m (x ∷ []) ≡ element (m.image x)
  unfolding value join
  letter_value x = refl

  -- of the empty word
  pub letter_class : (x : ℕ) → NextClassOf m (x ∷ []) none (m.image x)
  unfolding value
  letter_class x = record { its_tail = refl; its_value = letter_value x }

  -- of another
  pub longer_class : {w : List ℕ} {x whole : ℕ} {tail : Value} → Word m.letters w → x < m.letters → NextClassOf m w tail whole
      → NextClassOf m (w ++ (x ∷ [])) (join m tail (element (m.image x))) (m.product whole (m.image x))
  unfolding join
  longer_class {w} {x} p h c =
      let o : Over m.letters (x ∷ []) = over_cons h over_nil in
      record {
        its_tail = tail_append law w (x ∷ []) p o ∙ ap₂ (join m) c.its_tail (letter_value x);
        its_value = value_append law p.over o ∙ ap₂ (join m) c.its_value (letter_value x);
      }

  -- the values of a class are values of the table
  behind_over : (w : List ℕ) → Over m.letters w → Over m.letters (behind_first w)
  behind_over [] o = o
  behind_over (a ∷ w) o = over_right (a ∷ []) w o

  pub whole_inside : {w : List ℕ} {whole : ℕ} {tail : Value} → Over m.letters w → NextClassOf m w tail whole → whole < m.size
  whole_inside o c = inside_of law o c.its_value

  pub tail_known : {w : List ℕ} {tail whole : ℕ} → Over m.letters w → NextClassOf m w (value_of tail) whole → (tail ≡ 64) ⊎ (tail < m.size)
  tail_known {w} {tail} o c = go (ℕ_discrete tail 64)
    where
      go : Dec (tail ≡ 64) → (tail ≡ 64) ⊎ (tail < m.size)
      go (yes e) = inl e
      go (no f) = inr (inside_of law (behind_over w o) (c.its_tail ∙ value_other f))

-- words of the same two values are of one class
pub pair_same : {m : Morphism} {w x : List ℕ} {tail tail' whole whole' : ℕ} → NextClassOf m w (value_of tail) whole → NextClassOf m x (value_of tail') whole' → tail ≡ tail' → whole ≡ whole'
    → SameNextClass m w x
pair_same c d e f = record { same_tail = c.its_tail ∙ ap value_of e ∙ sym d.its_tail; same_value = c.its_value ∙ ap element f ∙ sym d.its_value }

-- and words of one class have the same two
pub same_pair : {m : Morphism} {w x : List ℕ} {tail tail' whole whole' : ℕ} → NextClassOf m w (value_of tail) whole → NextClassOf m x (value_of tail') whole' → SameNextClass m w x
    → (tail ≡ tail') × (whole ≡ whole')
same_pair c d s = (value_same _ _ (sym c.its_tail ∙ s.same_tail ∙ d.its_tail), element_same (sym c.its_value ∙ s.same_value ∙ d.its_value))

-- a number that stands for an element is that element
pub value_is : (s q : ℕ) → value_of s ≡ element q → s ≡ q
value_is s q e = go (ℕ_discrete s 64)
  where
    go : Dec (s ≡ 64) → s ≡ q
    go (yes f) = absurd (element_apart (sym (sym (ap value_of f ∙ value_none) ∙ e)))
    go (no f) = element_same (sym (value_other f) ∙ e)

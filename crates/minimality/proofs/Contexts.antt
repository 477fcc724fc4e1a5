-- An element between two values, each of an empty word or of another: its contexts. Two elements are indistinct if no
-- context tells them apart by its outcomes. Also words with a given value. Assumes nothing.
use Prim.Native.Nat.{ℕ, ◌<◌}
use mathlib.Core.Path.{◌≡◌, refl, sym, subst, subst₂, ap, ap₂, ◌∙◌}
use mathlib.Core.List.{List, [], ◌++◌}
use Rattle.theory.specs.Words.{Over, over_nil}
use Rattle.theory.specs.Rules.{Morphism, Lawful, Value, none, element, join, value, ValueWord, AllReached}
use Rattle.theory.proofs.Values.{Inside, inside_none, inside_element, join_inside, value_append}
use Rattle.theory.proofs.Words.{over_append}
use Rattle.theory.specs.Rounds.{SameOutcomes}

-- s with the value y after it
unfoldable pub after : Morphism → ℕ → Value → ℕ
after m s none = s
after m s (element y) = m.product s y

-- s with the value x before it
unfoldable pub ahead : Morphism → Value → ℕ → ℕ
ahead m none s = s
ahead m (element x) s = m.product x s

-- s with the value x before it and y after it
unfoldable pub around : Morphism → Value → ℕ → Value → ℕ
around m x s y = after m (ahead m x s) y

-- no context tells s and t apart: values before and after, each of an empty word or of another
pub record Indistinct (m : Morphism) (acc : ℕ → ℕ → ℕ) (s t : ℕ) : Type 0 where
  pub in_context : (x y : Value) → Inside m x → Inside m y → SameOutcomes m acc (around m x s y) (around m x t y)

-- the product of three values, the middle one an element, is that element in its context
pub around_value : (m : Morphism) (x y : Value) (s : ℕ) → join m (join m x (element s)) y ≡ element (around m x s y)
unfolding around ahead after join
around_value m none none s = refl
around_value m none (element y) s = refl
around_value m (element x) none s = refl
around_value m (element x) (element y) s = refl

module _ {m : Morphism} (law : Lawful m) where
  pub after_inside : {s : ℕ} {y : Value} → s < m.size → Inside m y → after m s y < m.size
  unfolding after
  after_inside h inside_none = h
  after_inside {s} h (inside_element {s = y} hy) = law.closed s y h hy

  pub ahead_inside : {x : Value} {s : ℕ} → Inside m x → s < m.size → ahead m x s < m.size
  unfolding ahead
  ahead_inside inside_none h = h
  ahead_inside {s = s} (inside_element {s = x} hx) h = law.closed x s hx h

  pub around_inside : {x y : Value} {s : ℕ} → Inside m x → Inside m y → s < m.size → around m x s y < m.size
  unfolding around
  around_inside hx hy h = after_inside (ahead_inside hx h) hy

  pub after_join : {s : ℕ} {x y : Value} → s < m.size → Inside m x → Inside m y → after m (after m s x) y ≡ after m s (join m x y)
  unfolding after join
  after_join h inside_none hy = refl
  after_join h (inside_element hx) inside_none = refl
  after_join {s} h (inside_element {s = x} hx) (inside_element {s = y} hy) = law.associative s x y h hx hy

  pub ahead_join : {s : ℕ} {x y : Value} → s < m.size → Inside m x → Inside m y → ahead m x (ahead m y s) ≡ ahead m (join m x y) s
  unfolding ahead join
  ahead_join h inside_none hy = refl
  ahead_join h (inside_element hx) inside_none = refl
  ahead_join {s} h (inside_element {s = x} hx) (inside_element {s = y} hy) = sym (law.associative x y s hx hy h)

  -- what stands before and what stands after may be put to s in either order
  swap : {s : ℕ} {x y : Value} → s < m.size → Inside m x → Inside m y → ahead m x (after m s y) ≡ after m (ahead m x s) y
  unfolding ahead after
  swap h inside_none hy = refl
  swap h (inside_element hx) inside_none = refl
  swap {s} h (inside_element {s = x} hx) (inside_element {s = y} hy) = sym (law.associative x s y hx h hy)

  -- a context in a context is a context
  pub around_around : {s : ℕ} {x x' y y' : Value} → s < m.size → Inside m x → Inside m x' → Inside m y → Inside m y'
      → around m x (around m x' s y') y ≡ around m (join m x x') s (join m y' y)
  unfolding around
  around_around {s} {x} {x'} {y} {y'} h hx hx' hy hy' =
      ap (λ k. after m k y) (swap (ahead_inside hx' h) hx hy')
      ∙ after_join (ahead_inside hx (ahead_inside hx' h)) hy' hy
      ∙ ap (λ k. after m k (join m y' y)) (ahead_join h hx hx')

  -- what no context tells apart, no context tells apart in a context
  pub indistinct_around : {acc : ℕ → ℕ → ℕ} {x y : Value} {s t : ℕ} → Inside m x → Inside m y → s < m.size → t < m.size
      → Indistinct m acc s t → Indistinct m acc (around m x s y) (around m x t y)
  indistinct_around {acc} {x} {y} {s} {t} hx hy hs ht d = record {
    in_context = λ x' y' hx' hy'.
        subst₂ (SameOutcomes m acc) (sym (around_around hs hx' hx hy' hy)) (sym (around_around ht hx' hx hy' hy))
        (d.in_context (join m x' x) (join m y y') (join_inside law hx' hx) (join_inside law hy hy'));
  }

-- the word w is over the letters and has the value x
pub record HasValue (m : Morphism) (w : List ℕ) (x : Value) : Type 0 where
  pub over : Over m.letters w
  pub is : value m w ≡ x

pub word_has : {m : Morphism} {x : Value} (w : ValueWord m x) → HasValue m w.word x
word_has w = record { over = w.over; is = w.its_value }

-- where every element is reached, so is every value
pub value_word : {m : Morphism} {x : Value} → AllReached m → Inside m x → ValueWord m x
unfolding value
value_word r inside_none = record { word = []; over = over_nil; its_value = refl }
value_word r (inside_element {s} h) = r.word_of s h

-- the values of one word after another, and of a word in its context
pub has_append : {m : Morphism} {p q : List ℕ} {x y : Value} → Lawful m → HasValue m p x → HasValue m q y → HasValue m (p ++ q) (join m x y)
has_append {m} law hp hq = record {
  over = over_append hp.over hq.over;
  is = value_append law hp.over hq.over ∙ ap₂ (join m) hp.is hq.is;
}

pub has_around : {m : Morphism} {p w q : List ℕ} {x y : Value} {s : ℕ} → Lawful m → HasValue m p x → HasValue m w (element s) → HasValue m q y
    → HasValue m ((p ++ w) ++ q) (element (around m x s y))
has_around {m} {p} {w} {q} {x} {y} {s} law hp hw hq =
    subst (HasValue m ((p ++ w) ++ q)) (around_value m x y s) (has_append law (has_append law hp hw) hq)

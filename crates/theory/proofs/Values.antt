-- Values of words: none for the empty word, an element below the size for any other, and the product law. Assumes nothing.
use Prim.Native.Nat.{ℕ, ◌<◌}
use mathlib.Core.Path.{◌≡◌, refl, sym, ap, ◌∙◌, subst}
use mathlib.Core.List.{List, [], ◌∷◌, ◌++◌}
use native.Mathlib.Omega.{arith}
use lib.ListN.{length}
use Rattle.theory.specs.Words.{Over, over_nil, over_cons}
use Rattle.theory.specs.Rules.{Morphism, Lawful, Value, none, element, join, value}

-- none, or an element below the size
pub data Inside (m : Morphism) : Value → Type 0 where
  inside_none : Inside m none
  inside_element : {s : ℕ} → s < m.size → Inside m (element s)

pub element_inside : {m : Morphism} {s : ℕ} → Inside m (element s) → s < m.size
element_inside (inside_element h) = h

pub element_apart : {s : ℕ} → element s ≡ none → ⊥
element_apart e = let z : ◌≡◌ {A = ℕ} 0 1 = cc in omega arith

pub element_same : {s t : ℕ} → element s ≡ element t → s ≡ t
element_same {s} {t} e = cc

pub join_none : (m : Morphism) (x : Value) → join m x none ≡ x
unfolding join
join_none m none = refl
join_none m (element s) = refl

-- the product of two elements
pub join_elements : (m : Morphism) (s t : ℕ) → join m (element s) (element t) ≡ element (m.product s t)
unfolding join
join_elements m s t = refl

-- a value that is an element
pub record Element (m : Morphism) (x : Value) : Type 0 where
  pub the : ℕ
  pub inside : the < m.size
  pub is : x ≡ element the

module _ {m : Morphism} (law : Lawful m) where
  pub join_inside : {x y : Value} → Inside m x → Inside m y → Inside m (join m x y)
  unfolding join
  join_inside inside_none hy = hy
  join_inside (inside_element h) inside_none = inside_element h
  join_inside (inside_element {s} h) (inside_element {s = t} h') = inside_element (law.closed s t h h')

  pub join_assoc : {x y z : Value} → Inside m x → Inside m y → Inside m z
      → join m (join m x y) z ≡ join m x (join m y z)
  unfolding join
  join_assoc inside_none hy hz = refl
  join_assoc (inside_element h) inside_none hz = refl
  join_assoc (inside_element h) (inside_element h') inside_none = refl
  join_assoc (inside_element {s} h) (inside_element {s = t} h') (inside_element {s = r} h'') =
      ap element (law.associative s t r h h' h'')

  pub value_inside : {w : List ℕ} → Over m.letters w → Inside m (value m w)
  unfolding value
  value_inside over_nil = inside_none
  value_inside (over_cons {a} h o) = join_inside (inside_element (law.images a h)) (value_inside o)

  -- the value of one word after another is the product of the values
  pub value_append : {x y : List ℕ} → Over m.letters x → Over m.letters y
      → value m (x ++ y) ≡ join m (value m x) (value m y)
  unfolding value join
  value_append over_nil oy = refl
  value_append {y = y} (over_cons {a} {w} h o) oy =
      ap (join m (element (m.image a))) (value_append o oy)
      ∙ sym (join_assoc (inside_element (law.images a h)) (value_inside o) (value_inside oy))

  pub inside_cons : {a : ℕ} {y : Value} → a < m.size → Inside m y → Element m (join m (element a) y)
  unfolding join
  inside_cons {a} h inside_none = record { the = a; inside = h; is = refl }
  inside_cons {a} h (inside_element {s} h') = record { the = m.product a s; inside = law.closed a s h h'; is = refl }

  -- a word that is not empty has an element for its value
  pub value_element : {w : List ℕ} → Over m.letters w → 0 < length w → Element m (value m w)
  unfolding value
  value_element over_nil h = absurd (omega arith)
  value_element (over_cons {a} h o) l = inside_cons (law.images a h) (value_inside o)

  -- an element that is a word's value is below the size
  pub inside_of : {w : List ℕ} {s : ℕ} → Over m.letters w → value m w ≡ element s → s < m.size
  inside_of o e = element_inside {m = m} (subst (Inside m) e (value_inside o))

-- a word with an element for its value is not empty
pub value_some : (m : Morphism) (w : List ℕ) (s : ℕ) → value m w ≡ element s → 0 < length w
unfolding value
value_some m [] s e = absurd (element_apart (sym e))
value_some m (a ∷ w) s e = omega arith

-- Linked pairs, conjugacy and its classes. Document 01, "What a rule means" and "Classes". Assumes nothing.
use Rattle.std.specs.Prelude.{ℕ, zero, suc, ◌+◌, ◌*◌, ◌/◌, ◌%◌, ◌≤◌, ◌<◌, ◌≡◌, List, T}
use Rattle.theory.specs.Rules.{Morphism, Pairs, element, value}

-- "An element e is idempotent if e·e = e."
pub record Idempotent (m : Morphism) (e : ℕ) : Type 0 where
  pub inside : e < m.size
  pub square : m.product e e ≡ e

-- the powers of an element: the one with exponent i + 1 at i ("powers 1 to n" are those at i below n)
unfoldable pub power : Morphism → ℕ → ℕ → ℕ
power m x zero = x
power m x (suc i) = m.product (power m x i) x

-- some power of the element with an exponent 1 to n is idempotent
pub record HasIdempotentPower (m : Morphism) (x : ℕ) : Type 0 where
  pub index : ℕ
  pub below : index < m.size
  pub idempotent : Idempotent m (power m x index)

-- "the least exponent, 1 to n", with which a power of x is idempotent; it is one above `index`
pub record LeastExponent (m : Morphism) (x exponent : ℕ) : Type 0 where
  pub index : ℕ
  pub below : index < m.size
  pub is_exponent : exponent ≡ index + 1
  pub idempotent : Idempotent m (power m x index)
  pub least : (i : ℕ) → i < index → Idempotent m (power m x i) → ⊥

-- e is the power with that exponent
pub record LeastPower (m : Morphism) (x e exponent : ℕ) : Type 0 where
  pub exponent_is : LeastExponent m x exponent
  pub is_power : e ≡ power m x exponent_is.index

-- "how many turns of a cycle together have a value that repeating no longer changes": the least exponent for the value of v
pub record TurnsOf (m : Morphism) (v : List ℕ) (turns : ℕ) : Type 0 where
  pub cycle : ℕ
  pub cycle_value : value m v ≡ element cycle
  pub turns_are : LeastExponent m cycle turns

-- "A pair (s, e) is linked if e is idempotent and s·e = s."
pub record Linked (m : Morphism) (s e : ℕ) : Type 0 where
  pub inside : s < m.size
  pub idempotent : Idempotent m e
  pub stays : m.product s e ≡ s

-- every pair of elements in the set is linked (refusal 7: "a marked pair isn't linked")
pub record LinkedOnly (m : Morphism) (P : Pairs) : Type 0 where
  pub linked : (s e : ℕ) → s < m.size → e < m.size → T (P s e) → Linked m s e

-- "Linked pairs (s, e) and (t, f) are conjugate if elements x, y exist with s·x = t, x·y = e, y·x = f."
pub record Conjugate (m : Morphism) (s e t f : ℕ) : Type 0 where
  pub left_linked : Linked m s e
  pub right_linked : Linked m t f
  pub x : ℕ
  pub y : ℕ
  pub x_inside : x < m.size
  pub y_inside : y < m.size
  pub moves : m.product s x ≡ t
  pub around : m.product x y ≡ e
  pub turned : m.product y x ≡ f

-- the number of a pair: "t·n+f"
unfoldable pub pair_number : Morphism → ℕ → ℕ → ℕ
pair_number m t f = t * m.size + f

-- "the least t·n+f conjugate to it"
pub record LeastConjugate (m : Morphism) (s e t f : ℕ) : Type 0 where
  pub conjugate : Conjugate m s e t f
  pub least : (t' f' : ℕ) → Conjugate m s e t' f' → pair_number m t f ≤ pair_number m t' f'

-- c of the numbers below n have P
pub data Counted (P : ℕ → Type 0) : ℕ → ℕ → Type 0 where
  counted_none : Counted P zero zero
  counted_one : {n c : ℕ} → P n → Counted P n c → Counted P (suc n) (suc c)
  counted_other : {n c : ℕ} → (P n → ⊥) → Counted P n c → Counted P (suc n) c

-- "the linked pairs", the pair (s, e) counted by its number s·n+e
unfoldable pub LinkedPairs : Morphism → ℕ → Type 0
LinkedPairs m c = Counted (λ i. Linked m (i / m.size) (i % m.size)) (m.size * m.size) c

-- "the classes": each counts once, at the pair that is its own least conjugate
unfoldable pub Classes : Morphism → ℕ → Type 0
Classes m c =
    Counted (λ i. LeastConjugate m (i / m.size) (i % m.size) (i / m.size) (i % m.size)) (m.size * m.size) c

-- "the linked pairs, the classes, and the joins, which are the first less the second"
pub record ClassCounts (m : Morphism) (linked classes joins : ℕ) : Type 0 where
  pub linked_pairs : LinkedPairs m linked
  pub class_count : Classes m classes
  pub difference : joins + classes ≡ linked

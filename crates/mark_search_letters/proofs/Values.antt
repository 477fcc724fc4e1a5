-- The value that a letter before a value has. Assumes nothing.
use Prim.Native.Nat.{ℕ, ◌≤◌, ◌<◌}
use mathlib.Core.Path.{◌≡◌, sym, ap, ◌∙◌}
use mathlib.Core.Logic.{◌⊎◌, inl, inr}
use mathlib.Core.List.{List}
use native.Mathlib.Omega.{arith}
use borrow.Author.Tests.{lt-ltb, le-ltb}
use Rattle.finite.proofs.Numbers.{le_or_lt}
use Rattle.theory.specs.Rules.{Morphism}
use Rattle.rule_table.specs.Table.{ProductNeeds}
use Rattle.formats.proofs.Tables.{Table}
use Rattle.formats.specs.Table.{product_at, image_at, morphism_at}
use Rattle.mark_search_letters.specs.Steps.{before_letter}

module _ (m : Morphism) where
  pub before_element : (a y : ℕ) → y < m.size → before_letter m a y ≡ m.product (m.image a) y
  unfolding before_letter
  before_element a y h = rw (lt-ltb y m.size h)

  pub before_none : (a y : ℕ) → m.size ≤ y → before_letter m a y ≡ m.image a
  unfolding before_letter
  before_none a y h = rw (le-ltb y m.size h)

module _ (bytes : List ℕ) (n k : ℕ) (table : Table bytes n k) where
  abbrev m : Morphism
  m = morphism_at bytes n k

  pub product_place : {a b : ℕ} → a < n → b < n → ProductNeeds bytes n a b
  product_place ha hb = record { small = table.small; long = omega (arith, table.long); left_inside = ha; right_inside = hb }

  -- the letter's element times the value, or alone
  pub back_element : (a : ℕ) {y h r : ℕ} → y < n → h ≡ image_at bytes n a → r ≡ product_at bytes n h y → r ≡ before_letter m a y
  back_element a {y} l e p = p ∙ ap (λ (x : ℕ). product_at bytes n x y) e ∙ sym (before_element m a y l)

  pub back_none : (a : ℕ) {y h : ℕ} → n ≤ y → h ≡ image_at bytes n a → h ≡ before_letter m a y
  back_none a {y} l e = e ∙ sym (before_none m a y l)

  pub before_inside : {a y : ℕ} → a < k → y ≤ n → (r : ℕ) → r ≡ before_letter m a y → r < n
  before_inside {a} {y} ha hy r e = go (le_or_lt n y)
    where
      go : (n ≤ y) ⊎ (y < n) → r < n
      go (inr h) = rw (e ∙ before_element m a y h) (table.products (image_at bytes n a) y (table.images a ha) h)
      go (inl h) = rw (e ∙ before_none m a y h) (table.images a ha)

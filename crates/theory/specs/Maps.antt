-- Maps from the elements of one table to those of another. Document 02, Jobs 7 and 13. Assumes nothing.
use Rattle.std.specs.Prelude.{ℕ, ◌<◌, ◌≡◌}
use Rattle.theory.specs.Rules.{Morphism}

-- the map takes products to products, and the element of each letter to that letter's element
pub record Carries (a b : Morphism) (to : ℕ → ℕ) : Type 0 where
  pub products : (s t : ℕ) → s < a.size → t < a.size → to (a.product s t) ≡ b.product (to s) (to t)
  pub images : (x : ℕ) → x < a.letters → to (a.image x) ≡ b.image x

-- "map onto the reduced elements, carry products and letter images over" (Job 13): each element goes to one of the other table, and each of those
-- is gone to
pub record MapsOnto (a b : Morphism) (to : ℕ → ℕ) : Type 0 where
  pub inside : (s : ℕ) → s < a.size → to s < b.size
  pub onto : (t : ℕ) → t < b.size → (s : ℕ) × (s < a.size) × (to s ≡ t)
  pub carries : Carries a b to

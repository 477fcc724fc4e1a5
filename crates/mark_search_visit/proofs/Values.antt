-- The values of a split: a value before an element, and the pair. Assumes nothing.
use Prim.Native.Nat.{ℕ, ◌+◌, ◌*◌, ◌≤◌, ◌<◌}
use mathlib.Core.Path.{◌≡◌, ◌∙◌}
use mathlib.Core.Logic.{◌⊎◌, inl, inr}
use mathlib.Core.List.{List}
use lib.ListN.{get_or}
use lib.Dec.{leb}
use borrow.Author.Tests.{lt-ltb, le-ltb}
use Rattle.finite.proofs.Numbers.{le_or_lt}
use Rattle.theory.specs.Rules.{Morphism, level}
use Rattle.theory.proofs.Codes.{value_coded}
use Rattle.theory.proofs.Turns.{turned}
use Rattle.theory.proofs.Splits.{turn_square}
use Rattle.formats.proofs.Tables.{Table}
use Rattle.formats.specs.Table.{product_at, morphism_at}
use Rattle.scratch.specs.Map.{marks_from}
use Rattle.mark_search_visit.specs.Visits.{split_marked}

module _ (m : Morphism) where
  pub turned_element : (x y : ℕ) → y < m.size → turned m (value_coded m.size y) x ≡ m.product y x
  unfolding value_coded turned
  turned_element x y h = rw (lt-ltb y m.size h)

  pub turned_none : (x y : ℕ) → m.size ≤ y → turned m (value_coded m.size y) x ≡ x
  unfolding value_coded turned
  turned_none x y h = rw (le-ltb y m.size h)

module _ (bytes : List ℕ) (n k : ℕ) (table : Table bytes n k) where
  abbrev m : Morphism
  m = morphism_at bytes n k

  pub product_inside : {a b r : ℕ} → a < n → b < n → r ≡ product_at bytes n a b → r < n
  product_inside {a} {b} ha hb e = rw e (table.products a b ha hb)

  pub turned_inside : {x : ℕ} (y : ℕ) → x < n → (r : ℕ) → r ≡ turned m (value_coded n y) x → r < n
  turned_inside {x} y hx r e = go (le_or_lt n y)
    where
      go : (n ≤ y) ⊎ (y < n) → r < n
      go (inr h) = rw (e ∙ turned_element m x y h) (table.products y x h hx)
      go (inl h) = rw (e ∙ turned_none m x y h) hx

  -- the byte of the split's pair says whether its mark is the least grade or more
  pub split_byte : (least : ℕ) (scratch : List ℕ) (second s x y : ℕ) {t f p : ℕ} → t ≡ turned m (value_coded n y) x → f ≡ product_at bytes n t t → p ≡ product_at bytes n s x
      → leb least (get_or scratch (second + (p * 64 + f)) 0) ≡ split_marked m (level least (marks_from scratch second)) s x y
  unfolding split_marked level marks_from turn_square
  split_byte least scratch second s x y {t} et ef ep = rw (ep, ef, et)

-- The element of a value and then a letter: how the code computes it, and that it is an element. Assumes nothing.
use Prim.Native.Nat.{ℕ, ◌≤◌, ◌<◌}
use mathlib.Core.Path.{◌≡◌}
use mathlib.Core.List.{List}
use mathlib.Core.Logic.{⊎_elim}
use borrow.Author.Tests.{lt-ltb, le-ltb}
use Rattle.finite.proofs.Numbers.{le_or_lt}
use Rattle.formats.proofs.Tables.{Table}
use Rattle.formats.specs.Table.{image_at, product_at, morphism_at}
use Rattle.scratch.specs.Preimages.{after_letter}

module _ {bytes : List ℕ} {n k a : ℕ} (table : Table bytes n k) (letter : a < k) where
  -- after an element: its product with the letter's
  pub after_element : {c h r : ℕ} → h ≡ image_at bytes n a → c < n → r ≡ product_at bytes n c h → r ≡ after_letter (morphism_at bytes n k) a c
  unfolding after_letter
  after_element {c} e l d = rw (lt-ltb c n l) (cc)

  -- after the empty word: the letter's own
  pub after_empty : {c h : ℕ} → h ≡ image_at bytes n a → n ≤ c → h ≡ after_letter (morphism_at bytes n k) a c
  unfolding after_letter
  after_empty {c} e l = rw (le-ltb c n l) e

  -- it is an element
  pub after_below : {r : ℕ} (c : ℕ) → r ≡ after_letter (morphism_at bytes n k) a c → r < n
  unfolding after_letter
  after_below c e =
      rw e
      (⊎_elim (λ l. rw (le-ltb c n l) (table.images a letter))
      (λ l. rw (lt-ltb c n l) (table.products c (image_at bytes n a) l (table.images a letter))) (le_or_lt n c))

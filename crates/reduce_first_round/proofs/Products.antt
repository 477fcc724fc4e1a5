-- The test of a further round: two elements compared by their blocks, and by those of their products with every letter.
-- Assumes nothing.
use Prim.Native.Nat.{ℕ, ◌+◌, ◌≤◌, ◌<◌}
use mathlib.Core.Path.{◌≡◌, refl}
use mathlib.Core.Bool.{Bool, true, false}
use mathlib.Core.Logic.{◌≢◌}
use mathlib.Core.List.{List}
use native.Mathlib.Omega.{arith}
use native.Mathlib.Decide.{ℕ_discrete}
use lib.ListN.{get_or}
use Rattle.scratch.specs.Map.{blocks_base}
use Rattle.theory.specs.Rules.{Morphism}
use Rattle.theory.specs.Rounds.{StillTogether}
use Rattle.reduce_first_round.specs.Map.{InOneBlock}
use Rattle.finite.specs.Tells.{Tells}
use Rattle.finite.proofs.Tells.{told_yes, told_no}
use Rattle.reduce_first_round.specs.Steps.{ProductsTogether}

-- products with one letter, by the numbers that the code has
module _ (scratch : List ℕ) {m : Morphism} {s t a h p q : ℕ} (eh : h ≡ m.image a) where
  -- the products on the right are in different blocks
  pub right_apart : p ≡ m.product s h → q ≡ m.product t h → (get_or scratch (blocks_base + p) 0 ≡ get_or scratch (blocks_base + q) 0 → ⊥)
      → Tells (ProductsTogether m (InOneBlock scratch) s t a) false
  unfolding InOneBlock
  right_apart ep eq g = told_no (λ o. g (rw (ep, eq, eh) o.on_right))

  -- the products on the left are
  pub left_apart : p ≡ m.product h s → q ≡ m.product h t → (get_or scratch (blocks_base + p) 0 ≡ get_or scratch (blocks_base + q) 0 → ⊥)
      → Tells (ProductsTogether m (InOneBlock scratch) s t a) false
  unfolding InOneBlock
  left_apart ep eq g = told_no (λ o. g (rw (ep, eq, eh) o.on_left))

  -- neither are
  pub both_together : {u v : ℕ} → p ≡ m.product s h → q ≡ m.product t h → u ≡ m.product h s → v ≡ m.product h t
      → get_or scratch (blocks_base + p) 0 ≡ get_or scratch (blocks_base + q) 0 → get_or scratch (blocks_base + u) 0 ≡ get_or scratch (blocks_base + v) 0
      → Tells (ProductsTogether m (InOneBlock scratch) s t a) true
  unfolding InOneBlock
  both_together ep eq eu ev r l = told_yes (record { on_right = rw (← eh, ← ep, ← eq) r; on_left = rw (← eh, ← eu, ← ev) l })

-- s and t are related, and so are their products with the letters below a number
pub record TogetherBelow (m : Morphism) (R : ℕ → ℕ → Type 0) (s t a : ℕ) : Type 0 where
  pub before : R s t
  pub products : (b : ℕ) → b < a → ProductsTogether m R s t b

module _ {m : Morphism} {R : ℕ → ℕ → Type 0} {s t : ℕ} where
  -- s and t are not related
  pub still_not : (R s t → ⊥) → Tells (StillTogether m R s t) false
  still_not g = told_no (λ r. g r.before)

  pub still_start : R s t → TogetherBelow m R s t 0
  still_start r = record { before = r; products = λ b h. absurd (omega arith) }

  -- one letter more
  pub still_next : {a : ℕ} {answer : Bool} → TogetherBelow m R s t a → Tells (ProductsTogether m R s t a) answer → answer ≡ true
      → TogetherBelow m R s t (a + 1)
  still_next {a} w p e = record { before = w.before; products = λ b h. at b h (ℕ_discrete b a) }
    where
      at : (b : ℕ) → b < a + 1 → Dec (b ≡ a) → ProductsTogether m R s t b
      at b h (yes q) = rw q (p.holds e)
      at b h (no g) = let d : b ≢ a = g in w.products b (omega arith)

  -- a letter parts them
  pub still_parted : {a : ℕ} {answer : Bool} → a < m.letters → Tells (ProductsTogether m R s t a) answer → answer ≡ false
      → Tells (StillTogether m R s t) false
  still_parted {a} h p e = told_no (λ r. p.fails e (record { on_right = r.on_right a h; on_left = r.on_left a h }))

  -- no letter does
  pub still_all : {a : ℕ} → TogetherBelow m R s t a → m.letters ≤ a → Tells (StillTogether m R s t) true
  still_all w h = told_yes (record {
    before = w.before;
    on_right = λ b l. (w.products b (omega arith)).on_right;
    on_left = λ b l. (w.products b (omega arith)).on_left;
  })

-- every element is kept together with itself
pub still_refl : (m : Morphism) (scratch : List ℕ) (s : ℕ) → StillTogether m (InOneBlock scratch) s s
unfolding InOneBlock
still_refl m scratch s = record { before = refl; on_right = λ a h. refl; on_left = λ a h. refl }

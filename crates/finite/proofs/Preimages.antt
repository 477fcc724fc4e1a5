-- Where a function on the numbers below m takes each number below n: the least that it takes to it, and so no fewer numbers than there. Assumes nothing.
use Prim.Native.Nat.{ℕ, ◌≤◌, ◌<◌}
use native.Mathlib.Omega.{arith}
use mathlib.Core.Path.{◌≡◌, sym, ap, ◌∙◌}
use lib.Dec.{eqb}
use mir.Facts.{eqb_yes, yes_eqb}
use Rattle.finite.proofs.Search.{least_below, least_holds, least_bound}
use Rattle.finite.proofs.Pigeonhole.{Injection, injection_le}

-- the least number below m that f takes to y; m where there is none
unfoldable pub preimage : ℕ → (ℕ → ℕ) → ℕ → ℕ
preimage m f y = least_below m (λ x. eqb (f x) y)

module _ {m n : ℕ} {f : ℕ → ℕ} (onto : (y : ℕ) → y < n → (x : ℕ) × (x < m) × (f x ≡ y)) where
  pub preimage_below : (y : ℕ) → y < n → preimage m f y < m
  unfolding preimage
  preimage_below y h =
      let k = onto y h in
      omega (arith, k.1, least_bound m (λ x. eqb (f x) y) k.0 k.1 (yes_eqb k.2))

  pub preimage_maps : (y : ℕ) → y < n → f (preimage m f y) ≡ y
  unfolding preimage
  preimage_maps y h = eqb_yes (least_holds m (λ x. eqb (f x) y) (preimage_below y h))

  pub preimage_injection : Injection n m (preimage m f)
  preimage_injection = record {
    maps = preimage_below;
    apart = λ y z hy hz e. sym (preimage_maps y hy) ∙ ap f e ∙ preimage_maps z hz;
  }

  -- a function onto does not grow
  pub onto_le : n ≤ m
  onto_le = injection_le preimage_injection

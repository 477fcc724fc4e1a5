-- The highest number up to a bound that passes a test, and numbers told by what they are at least. Assumes nothing.
use Prim.Native.Nat.{ℕ, zero, suc, ◌≤◌, ◌<◌}
use mathlib.Core.Path.{◌≡◌, subst}
use mathlib.Core.Bool.{Bool, true, false, cond}
use mathlib.Core.Logic.{◌↔◌, ⊎_elim}
use native.Mathlib.Omega.{arith}
use lib.Dec.{T}
use Rattle.finite.proofs.Numbers.{le_or_lt, below_cases}

-- the highest of 1, .., n that passes p, 0 where none does
unfoldable pub highest : ℕ → (ℕ → Bool) → ℕ
highest zero p = 0
highest (suc n) p =
    let rest = highest n p in
    cond (p (suc n)) (suc n) rest

-- what passes at a number passes at each below it
pub record Falling (p : ℕ → Bool) : Type 0 where
  pub falls : (g h : ℕ) → 1 ≤ g → g ≤ h → T (p h) → T (p g)

module _ (p : ℕ → Bool) where
  pub highest_le : (n : ℕ) → highest n p ≤ n
  unfolding highest
  highest_le zero = omega arith
  highest_le (suc n) = go (p (suc n)) (highest_le n)
    where
      go : (b : Bool) → highest n p ≤ n → cond b (suc n) (highest n p) ≤ suc n
      go true h = omega arith
      go false h = omega arith

  pub highest_passes : (n : ℕ) → 1 ≤ highest n p → T (p (highest n p))
  unfolding highest
  highest_passes zero h = absurd (omega arith)
  highest_passes (suc n) h = go (p (suc n)) (λ t. t) (highest_passes n) h
    where
      go : (b : Bool) → (T b → T (p (suc n))) → (1 ≤ highest n p → T (p (highest n p))) → 1 ≤ cond b (suc n) (highest n p)
          → T (p (cond b (suc n) (highest n p)))
      go true t rest k = t tt
      go false t rest k = rest k

  -- none that passes is higher
  pub highest_bound : (n g : ℕ) → 1 ≤ g → g ≤ n → T (p g) → g ≤ highest n p
  unfolding highest
  highest_bound zero g some h t = absurd (omega arith)
  highest_bound (suc n) g some h t = go (p (suc n)) (λ e. subst (λ (x : ℕ). T (p x)) e t) (λ l. highest_bound n g some l t)
    where
      go : (b : Bool) → (g ≡ suc n → T b) → (g ≤ n → g ≤ highest n p) → g ≤ cond b (suc n) (highest n p)
      go true f rest = h
      go false f rest =
          ⊎_elim (λ e. absurd (f e)) (λ l. rest (omega arith)) (below_cases (let z : g < suc (suc n) = omega arith in z))

  -- a falling test passes exactly up to the highest
  pub highest_iff : (n : ℕ) → Falling p → (g : ℕ) → 1 ≤ g → g ≤ n → T (p g) ↔ (g ≤ highest n p)
  highest_iff n f g some h = (λ t. highest_bound n g some h t, λ l. f.falls g (highest n p) some l (highest_passes n (omega arith)))

-- numbers that are at least the same positive numbers are equal
pub same_above : {a b : ℕ} → ((g : ℕ) → 1 ≤ g → (g ≤ a) ↔ (g ≤ b)) → a ≡ b
same_above {a} {b} f =
    ⊎_elim (λ (p : 1 ≤ a).
    ⊎_elim (λ (q : 1 ≤ b). omega (arith, (f a p).0 (omega arith), (f b q).1 (omega arith))) (λ q. omega (arith, (f a p).0 (omega arith))) (le_or_lt 1 b))
    (λ p. ⊎_elim (λ (q : 1 ≤ b). omega (arith, (f b q).1 (omega arith))) (λ q. omega arith) (le_or_lt 1 b)) (le_or_lt 1 a)

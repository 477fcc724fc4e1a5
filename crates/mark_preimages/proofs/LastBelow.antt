-- The last number below a bound with a property, and what it becomes where the bound grows by one. Assumes nothing.
use Prim.Native.Nat.{ℕ, ◌+◌, ◌≤◌, ◌<◌}
use mathlib.Core.Path.{◌≡◌}
use mathlib.Core.Logic.{◌≢◌}
use native.Mathlib.Omega.{arith}
use native.Mathlib.Decide.{ℕ_discrete}
use Rattle.scratch.specs.Preimages.{LastBelow}

module _ {P : ℕ → Type 0} where
  -- no number is below 0
  pub last_none : LastBelow P 0 0
  last_none = record { within = omega arith; holds = λ i e. absurd (omega arith); later = λ i h l. absurd (omega arith) }

  -- the bound has the property
  pub last_found : (c : ℕ) → P c → LastBelow P (c + 1) (c + 1)
  last_found c p = record {
    within = omega arith;
    holds = λ i e. let d : i ≡ c = omega arith in rw d p;
    later = λ i h l. absurd (omega arith);
  }

  -- the bound does not have it
  pub last_kept : {c r : ℕ} → LastBelow P c r → (P c → ⊥) → LastBelow P (c + 1) r
  last_kept {c} {r} b no-c = record {
    within = omega (arith, b.within);
    holds = b.holds;
    later = λ i h l. before i h (ℕ_discrete i c) l;
  }
    where
      before : (i : ℕ) → r ≤ i → Dec (i ≡ c) → i < c + 1 → P i → ⊥
      before i h (yes e) l p = no-c (rw e at p)
      before i h (no e) l p = let d : i ≢ c = e in b.later i h (omega arith) p

-- A number that was raised from 0 on: it stays where all tests fail, and is at least exactly what passes. Assumes nothing.
use Prim.Native.Nat.{ℕ, ◌≤◌, ◌<◌}
use native.Mathlib.Omega.{arith}
use mathlib.Core.Bool.{Bool}
use mathlib.Core.Logic.{inl, inr, ◌↔◌, ⊎_elim}
use lib.Dec.{T}
use Rattle.finite.specs.Search.{any_below}
use Rattle.finite.proofs.Search.{any_intro, any_elim}
use Rattle.lasso_powers.specs.Raising.{Raised}

-- all fail that were tried
pub raised_none : (p : ℕ → ℕ → Bool) (j : ℕ) → ((g i : ℕ) → 1 ≤ g → i < j → ¬ T (p g i)) → Raised (λ g. any_below j (p g)) 0 0
raised_none p j none = record {
  least = λ g some. (
    λ l. inl l,
    λ k. ⊎_elim (λ l. l) (λ t. let f = any_elim j (p g) t in absurd (none g f.at some f.below f.holds)) k,
  );
}

-- where 0 stays, all fail
pub none_raised : (p : ℕ → ℕ → Bool) {j : ℕ} → Raised (λ g. any_below j (p g)) 0 0 → (g i : ℕ) → 1 ≤ g → i < j → ¬ T (p g i)
none_raised p {j} a g i some h t = let z : g ≤ 0 = (a.least g some).1 (inr (any_intro j (p g) i h t)) in omega (arith, some, z)

-- from 0 on it is at least exactly what passes
pub raised_exactly : {p : ℕ → Bool} {after : ℕ} → Raised p 0 after → (g : ℕ) → 1 ≤ g → T (p g) ↔ (g ≤ after)
raised_exactly a g some = (λ t. (a.least g some).1 (inr t), λ l. ⊎_elim (λ (h : g ≤ 0). absurd (omega arith)) (λ t. t) ((a.least g some).0 l))

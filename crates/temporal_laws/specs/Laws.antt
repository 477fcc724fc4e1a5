-- The laws of temporal formulas that their users know, at each least grade from 1 to 3 and each lasso, also one with an empty start. Assumes nothing.
use Rattle.std.specs.Prelude.{ℕ, ◌+◌, ◌≤◌, ◌<◌, ◌↔◌, ◌⊎◌, List, length}
use Rattle.theory.specs.Words.{Lasso}
use Rattle.theory.specs.Rules.{Morphism, Marking}
use Rattle.temporal.specs.Temporal.{UntilAt}
use Rattle.temporal.specs.Formulas.{Formula, negation, both, either, next, until, always, release, weak_until, HoldsFrom, HoldsUntil, Means}

-- until with its witness in the start or in the first turn of the cycle
pub record DecidedWithin (m₁ : Morphism) (marks₁ : Marking) (m₂ : Morphism) (marks₂ : Marking) (h : ℕ) (u v : List ℕ) : Type 0 where
  pub until_at : UntilAt m₁ marks₁ m₂ marks₂ h u v
  pub within : until_at.place < length u + length v

-- two formulas have the same grade of every lasso over k letters, as far as the least grade h tells
pub record SameAt (k h : ℕ) (f g : Formula) : Type 0 where
  pub same : (u v : List ℕ) → Lasso k u v → Means k f h u v ↔ Means k g h u v

-- where the second holds, or the first holds and x from the next letter on, x holds: what f until g is the least of
pub record ClosedUnder (k h : ℕ) (f g x : Formula) : Type 0 where
  pub closed : (u v : List ℕ) → Lasso k u v → Means k (either g (both f (next x))) h u v → Means k x h u v

pub record FormulaLaws : Type 0 where
  -- "until is decided within start and one turn"
  pub until_within : (m₁ : Morphism) (marks₁ : Marking) (m₂ : Morphism) (marks₂ : Marking) (h : ℕ) (u v : List ℕ) → 0 < length v
      → UntilAt m₁ marks₁ m₂ marks₂ h u v ↔ DecidedWithin m₁ marks₁ m₂ marks₂ h u v
  -- "always f = f and next always f"
  pub always_expands : (k h : ℕ) → 1 ≤ h → h ≤ 3 → (f : Formula) → SameAt k h (always f) (both f (next (always f)))
  -- "f until g = g or (f and next (f until g)) and it is the least such"
  pub until_expands : (k h : ℕ) → 1 ≤ h → (f g : Formula) → SameAt k h (until f g) (either g (both f (next (until f g))))
  pub until_least : (k h : ℕ) → 1 ≤ h → (f g x : Formula) → ClosedUnder k h f g x → (u v : List ℕ) → Lasso k u v → Means k (until f g) h u v → Means k x h u v
  -- De Morgan, and twice not
  pub not_both : (k h : ℕ) → 1 ≤ h → h ≤ 3 → (f g : Formula) → SameAt k h (negation (both f g)) (either (negation f) (negation g))
  pub not_either : (k h : ℕ) → 1 ≤ h → h ≤ 3 → (f g : Formula) → SameAt k h (negation (either f g)) (both (negation f) (negation g))
  pub not_not : (k h : ℕ) → 1 ≤ h → h ≤ 3 → (f : Formula) → SameAt k h (negation (negation f)) f
  -- weak until: until, or the first at each place; release: at each place the second, or the first at an earlier one
  pub weak_until_law : (k h : ℕ) → 1 ≤ h → h ≤ 3 → (f g : Formula) (u v : List ℕ) → Lasso k u v
      → Means k (weak_until f g) h u v ↔ (HoldsUntil k (Means k f h) (Means k g h) u v ⊎ ((i : ℕ) → HoldsFrom k (Means k f h) u v i))
  pub released : (k h : ℕ) → 1 ≤ h → h ≤ 3 → (f g : Formula) (u v : List ℕ) → Lasso k u v
      → Means k (release f g) h u v ↔ ((i : ℕ) → HoldsFrom k (Means k g h) u v i ⊎ ((j : ℕ) × (j < i) × HoldsFrom k (Means k f h) u v j))

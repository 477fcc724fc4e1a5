-- The test of round 0: two elements compared by their outcomes with every
-- element. Assumes nothing.
use Prim.Native.Nat.{ℕ, ◌+◌, ◌≤◌, ◌<◌}
use mathlib.Core.Path.{◌≡◌, refl, sym, ◌∙◌}
use mathlib.Core.Bool.{true, false}
use mathlib.Core.Logic.{◌≢◌}
use native.Mathlib.Omega.{arith}
use native.Mathlib.Decide.{ℕ_discrete}
use Rattle.theory.specs.Rules.{Morphism}
use Rattle.theory.specs.Rounds.{SameOutcomes}
use Rattle.finite.specs.Tells.{Tells}
use Rattle.finite.proofs.Tells.{told_yes, told_no}

-- two elements have the same outcomes with the elements below a number
pub record SameBelow (acc : ℕ → ℕ → ℕ) (s t z : ℕ) : Type 0 where
  pub as_start : (y : ℕ) → y < z → acc s y ≡ acc t y
  pub as_cycle : (y : ℕ) → y < z → acc y s ≡ acc y t

module _ {acc : ℕ → ℕ → ℕ} {s t : ℕ} where
  -- with none yet
  pub same_none : SameBelow acc s t 0
  same_none = record { as_start = λ y h. absurd (omega arith); as_cycle = λ y h. absurd (omega arith) }

  -- with one more
  pub same_more : {z a b c d : ℕ} → SameBelow acc s t z → a ≡ acc s z → b ≡ acc t z → a ≡ b → c ≡ acc z s → d ≡ acc z t → c ≡ d → SameBelow acc s t (z + 1)
  same_more {z} w p q e p' q' e' = record {
    as_start = λ y h. start y h (ℕ_discrete y z);
    as_cycle = λ y h. cycle y h (ℕ_discrete y z);
  }
    where
      start : (y : ℕ) → y < z + 1 → Dec (y ≡ z) → acc s y ≡ acc t y
      start y h (yes l) = rw l (sym p ∙ e ∙ q)
      start y h (no g) = let l : y ≢ z = g in w.as_start y (omega arith)

      cycle : (y : ℕ) → y < z + 1 → Dec (y ≡ z) → acc y s ≡ acc y t
      cycle y h (yes l) = rw l (sym p' ∙ e' ∙ q')
      cycle y h (no g) = let l : y ≢ z = g in w.as_cycle y (omega arith)

  -- with all
  pub same_all : {m : Morphism} {z : ℕ} → SameBelow acc s t z → m.size ≤ z → Tells (SameOutcomes m acc s t) true
  same_all w l = told_yes (record { as_start = λ y h. w.as_start y (omega arith); as_cycle = λ y h. w.as_cycle y (omega arith) })

  -- an outcome differs
  pub start_differs : {m : Morphism} {z a b : ℕ} → z < m.size → a ≡ acc s z → b ≡ acc t z → (a ≡ b → ⊥) → Tells (SameOutcomes m acc s t) false
  start_differs {z = z} h p q g = told_no (λ o. g (p ∙ o.as_start z h ∙ sym q))

  pub cycle_differs : {m : Morphism} {z a b : ℕ} → z < m.size → a ≡ acc z s → b ≡ acc z t → (a ≡ b → ⊥) → Tells (SameOutcomes m acc s t) false
  cycle_differs {z = z} h p q g = told_no (λ o. g (p ∙ o.as_cycle z h ∙ sym q))

-- every element has its own outcomes
pub same_refl : (m : Morphism) (acc : ℕ → ℕ → ℕ) (s : ℕ) → SameOutcomes m acc s s
same_refl m acc s = record { as_start = λ z h. refl; as_cycle = λ z h. refl }

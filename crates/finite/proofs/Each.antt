-- A pass over the numbers below a bound, which ends at the first that lacks a property, tells whether each has it. Assumes nothing.
use Prim.Native.Nat.{ℕ, ◌+◌, ◌≤◌, ◌<◌}
use mathlib.Core.Path.{◌≡◌}
use mathlib.Core.Bool.{Bool, true, false, not}
use native.Mathlib.Omega.{arith}
use borrow.Author.Count.{below_more}
use borrow.Author.Tests.{not-true, not-false}
use Rattle.finite.specs.Tells.{Tells}
use Rattle.finite.specs.Each.{EachBelow}
use Rattle.finite.proofs.Tells.{told_yes, told_no}

module _ {P : ℕ → Type 0} where
  -- no number was passed
  pub each_none : EachBelow P 0
  each_none = record { each = λ i h. absurd (omega arith) }

  -- one more
  pub each_more : {i : ℕ} → EachBelow P i → P i → EachBelow P (i + 1)
  each_more {i} w p = record { each = below_more P i w.each p }

  -- all
  pub each_all : {i n : ℕ} → EachBelow P i → n ≤ i → Tells (EachBelow P n) true
  each_all w h = told_yes (record { each = λ j l. w.each j (omega arith) })

  -- one lacks the property
  pub each_not : {i n : ℕ} → i < n → (P i → ⊥) → Tells (EachBelow P n) false
  each_not {i} h g = told_no (λ w. g (w.each i h))

  -- the property of each is told by an answer
  pub each_told : {i : ℕ} {answer : Bool} → EachBelow P i → Tells (P i) answer → not answer ≡ false → EachBelow P (i + 1)
  each_told w t e = each_more w (t.holds (not-false _ e))

  pub each_told_not : {i n : ℕ} {answer : Bool} → i < n → Tells (P i) answer → not answer ≡ true → Tells (EachBelow P n) false
  each_told_not h t e = each_not h (t.fails (not-true _ e))

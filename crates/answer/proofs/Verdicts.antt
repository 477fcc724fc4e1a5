-- An answer that is refused is known by its verdict: the refusal, the input and the place are those of the verdict, and it is not
-- passed. Assumes nothing.
use Prim.Native.Nat.{ℕ}
use native.Mathlib.Omega.{arith}
use mathlib.Core.Path.{◌≡◌}
use Rattle.answer.specs.declared.Refusal.{Refusal}
use Rattle.answer.specs.Refusals.{number_of}
use Rattle.answer.specs.Checks.{passed, numbered, refused}
use Rattle.answer.proofs.Numbers.{same_number}

-- refusals with one verdict are one, in the answer type of whichever call
pub same_refusal : {A : Type 0} (answer : Refusal → ℕ → ℕ → A) (r r' : Refusal) (i i' place place' : ℕ) → refused r i place ≡ refused r' i' place'
    → answer r i place ≡ answer r' i' place'
same_refusal answer r r' i i' place place' e =
    let number : number_of r ≡ number_of r' = cc in
    let kind = same_number r r' number in
    let there : i ≡ i' = cc in
    let here : place ≡ place' = cc in
    cc (kind, there, here)

pub not_passed : {number input place : ℕ} → numbered number input place ≡ passed → ⊥
not_passed e = let z : ◌≡◌ {A = ℕ} 0 1 = cc in omega arith

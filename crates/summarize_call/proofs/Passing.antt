-- Checks that pass refuse nothing. Assumes nothing.
use Prim.Native.Nat.{ℕ}
use mathlib.Core.Path.{◌≡◌}
use mathlib.Core.List.{List}
use native.Mathlib.Omega.{arith}
use Rattle.answer.specs.Checks.{Check, passed, numbered, FirstFailure}
use Rattle.answer.proofs.Order.{AllSingle, one_verdict}

-- checks that pass refuse nothing
pub not_refused : {checks : List Check} {number input place : ℕ} → AllSingle checks → FirstFailure checks passed → FirstFailure checks (numbered number input place) → ⊥
not_refused s p q =
    let e = one_verdict s p q in
    let z : ◌≡◌ {A = ℕ} 0 1 = cc in
    omega arith

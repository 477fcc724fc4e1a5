-- What a number holds tells a refusal: two that hold the same are one. Assumes nothing.
use Prim.Native.Nat.{ℕ}
use mathlib.Core.Path.{◌≡◌}
use Rattle.answer.specs.Checks.{numbered}
use Rattle.packing.specs.Packing.{refusal_at}

-- a refusal's contents are its verdict
pub verdict_of_lem : {n n' i i' p p' : ℕ} → refusal_at n i p ≡ refusal_at n' i' p' → numbered n i p ≡ numbered n' i' p'
verdict_of_lem e = cc

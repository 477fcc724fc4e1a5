-- The letters of a set that are not below a count, tried one after the other. Assumes nothing.
use Prim.Native.Nat.{ℕ, ◌/◌, ◌%◌, ◌^◌, ◌+◌, ◌≤◌, ◌<◌}
use mathlib.Core.Path.{◌≡◌, refl}
use mathlib.Core.Logic.{⊎_elim}
use native.Mathlib.Omega.{arith}
use lib.Dec.{T}
use borrow.Author.Tests.{eq-eqb, ne_eqb}
use Rattle.finite.proofs.Numbers.{le_or_lt}
use Rattle.finite.proofs.Tests.{true_T}
use Rattle.temporal_promises.specs.FirstLetter.{in_set}
use Rattle.first_letter_call.proofs.Elements.{NoForeign, foreign_more, foreign_none}
use Rattle.first_letter_call.proofs.Calling.{none_beyond}
use Rattle.formula_scan.specs.Scanning.{SomeForeign}

module _ {letters set a : ℕ} (n : NoForeign letters set a) where
  pub found_here : set / 2 ^ a % 2 ≡ 1 → SomeForeign letters set
  unfolding in_set
  found_here e = record { letter = a; foreign = n.from; is_in_set = true_T (eq-eqb (set / 2 ^ a % 2) 1 e) }

  pub found_more : a < 64 → (set / 2 ^ a % 2 ≡ 1 → ⊥) → NoForeign letters set (a + 1)
  unfolding in_set
  found_more h f = foreign_more n h refl (ne_eqb (set / 2 ^ a % 2) 1 f)

  pub found_none : set < 2 ^ 64 → 64 ≤ a → (b : ℕ) → letters ≤ b → T (in_set set b) → ⊥
  found_none small h b l t = ⊎_elim (λ far. none_beyond small far t) (λ near. (foreign_none n h).nowhere (omega arith) b l near t) (le_or_lt 64 b)

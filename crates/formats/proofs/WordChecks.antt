-- The checks of two words fail at one place at most. Assumes nothing.
use Prim.Native.Nat.{ℕ, ◌<◌}
use mathlib.Core.List.{List}
use native.Mathlib.Omega.{arith}
use Rattle.answer.specs.declared.Refusal.TheVariants.{UnknownLetter, WordLength}
use Rattle.answer.proofs.Order.{Single, AllSingle, single_nil, single_at, single_cons}
use Rattle.formats.specs.WordChecks.{shortest_start, shortest_cycle, LengthOutAt, UnknownLetterAt, lasso_checks}

length_single : (input shortest : ℕ) (w : List ℕ) → Single (record { refusal = WordLength; input = input; Fails = LengthOutAt shortest w })
length_single input shortest w = single_at (λ place a. a.is_place)

foreign_single : (input k : ℕ) (w : List ℕ) → Single (record { refusal = UnknownLetter; input = input; Fails = UnknownLetterAt k w })
foreign_single input k w = record {
  one_place = λ p q a b.
      (let f : p < q → ⊥ = λ h. omega (arith, b.first p h, a.foreign) in
      let g : q < p → ⊥ = λ h. omega (arith, a.first q h, b.foreign) in
      omega arith);
}

-- each check fails at one place at most
pub lasso_single : (k : ℕ) (u v : List ℕ) → AllSingle (lasso_checks k u v)
lasso_single k u v =
    single_cons (length_single 1 shortest_start u) (single_cons (length_single 2 shortest_cycle v) (single_cons (foreign_single 1 k u) (single_cons (foreign_single 2 k v) single_nil)))

-- A search looks at its test below the bound only. Assumes nothing.
use Prim.Native.Nat.{ℕ, ◌<◌}
use mathlib.Core.Path.{◌≡◌, sym, subst}
use mathlib.Core.Bool.{Bool}
use lib.Dec.{T}
use Rattle.finite.proofs.Tests.{tests_equal}
use Rattle.finite.specs.Search.{any_below}
use Rattle.finite.proofs.Search.{any_intro, any_elim}

pub any_same : (n : ℕ) (p q : ℕ → Bool) → ((i : ℕ) → i < n → p i ≡ q i) → any_below n p ≡ any_below n q
any_same n p q same = tests_equal (any_below n p) (any_below n q) (one_way p q same) (one_way q p (λ i h. sym (same i h)))
  where
    one_way : (a b : ℕ → Bool) → ((i : ℕ) → i < n → a i ≡ b i) → T (any_below n a) → T (any_below n b)
    one_way a b e t =
        let f = any_elim n a t in
        any_intro n b f.at f.below (subst T (e f.at f.below) f.holds)

-- Bytes in triples: the i-th triple stands from 3·i on, and each byte is the first, the second or the third of its triple. Assumes
-- nothing.
use Prim.Native.Nat.{ℕ, ◌+◌, ◌*◌, ◌/◌, ◌%◌, ◌<◌}
use mathlib.Core.Path.{◌≡◌, subst}
use native.Mathlib.Omega.{arith}
use native.Mathlib.Decide.{ℕ_discrete}

-- which byte of its triple
module _ (i : ℕ) where
  pub first_of : (3 * i) % 3 ≡ 0
  first_of = omega arith

  pub second_of : (3 * i + 1) % 3 ≡ 1
  second_of = omega arith

  pub third_of : (3 * i + 2) % 3 ≡ 2
  third_of = omega arith

-- what holds of each byte of each triple holds of every byte
pub by_triples : (P : ℕ → Type 0) (count : ℕ) → ((i : ℕ) → i < count → P (3 * i)) → ((i : ℕ) → i < count → P (3 * i + 1)) → ((i : ℕ) → i < count → P (3 * i + 2))
    → (j : ℕ) → j < 3 * count → P j
by_triples P count first second third j h = go (ℕ_discrete (j % 3) 0) (ℕ_discrete (j % 3) 1)
  where
    go : Dec (j % 3 ≡ 0) → Dec (j % 3 ≡ 1) → P j
    go (yes e) d = subst P (let q : 3 * (j / 3) ≡ j = omega arith in q) (first (j / 3) (omega arith))
    go (no f) (yes e) = subst P (let q : 3 * (j / 3) + 1 ≡ j = omega arith in q) (second (j / 3) (omega arith))
    go (no f) (no g) = subst P (let q : 3 * (j / 3) + 2 ≡ j = omega arith in q) (third (j / 3) (omega arith))

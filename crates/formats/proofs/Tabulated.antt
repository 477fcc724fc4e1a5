-- A function's values in a row: how many they are, which stands where, and when two rows are equal. Assumes nothing.
use Prim.Native.Nat.{ℕ, zero, suc, ◌+◌, ◌≤◌, ◌<◌}
use mathlib.Core.Path.{◌≡◌, refl, sym, ap, ◌∙◌}
use mathlib.Core.List.{List}
use native.Mathlib.Omega.{arith}
use native.Mathlib.Nat.{add-zero, zero-add}
use lib.ListN.{length, get_or, take}
use lib.Seq.{ext_get_or, length-take-le, get_or-take}
use Rattle.formats.specs.WrittenFile.{tabulate}

pub tabulate_length : (i n : ℕ) (f : ℕ → ℕ) → length (tabulate i n f) ≡ n
unfolding tabulate
tabulate_length i zero f = refl
tabulate_length i (suc n) f = ap suc (tabulate_length (suc i) n f)

tabulate_from : (i n : ℕ) (f : ℕ → ℕ) (j : ℕ) → j < n → get_or (tabulate i n f) j 0 ≡ f (i + j)
unfolding tabulate
tabulate_from i zero f j h = absurd (let z : ⊥ = omega arith in z)
tabulate_from i (suc n) f zero h = ap f (sym (add-zero i))
tabulate_from i (suc n) f (suc j) h = tabulate_from (suc i) n f j (omega arith) ∙ ap f (let e : suc i + j ≡ i + suc j = omega arith in e)

-- the j-th value
pub tabulate_at : (n : ℕ) (f : ℕ → ℕ) (j : ℕ) → j < n → get_or (tabulate 0 n f) j 0 ≡ f j
tabulate_at n f j h = tabulate_from 0 n f j h ∙ ap f (zero-add j)

-- a list with those values is the row
pub tabulate_is : (n : ℕ) (f : ℕ → ℕ) (xs : List ℕ) → length xs ≡ n → ((j : ℕ) → j < n → f j ≡ get_or xs j 0) → tabulate 0 n f ≡ xs
tabulate_is n f xs l h =
    ext_get_or 0 (tabulate 0 n f) xs (tabulate_length 0 n f ∙ sym l)
    (λ j k. let k' : j < n = omega (arith, tabulate_length 0 n f) in tabulate_at n f j k' ∙ h j k')

-- two functions that agree below n have the same row
pub tabulate_same : (n : ℕ) (f g : ℕ → ℕ) → ((j : ℕ) → j < n → f j ≡ g j) → tabulate 0 n f ≡ tabulate 0 n g
tabulate_same n f g h = tabulate_is n f (tabulate 0 n g) (tabulate_length 0 n g) (λ j k. h j k ∙ sym (tabulate_at n g j k))

-- the row of a list's first n elements
pub tabulate_take : (n : ℕ) (f : ℕ → ℕ) (xs : List ℕ) → n ≤ length xs → ((j : ℕ) → j < n → f j ≡ get_or xs j 0) → tabulate 0 n f ≡ take n xs
tabulate_take n f xs l h = tabulate_is n f (take n xs) (length-take-le n xs l) (λ j k. h j k ∙ sym (get_or-take n xs j 0 k))

-- Where a product stands in a table of n elements lies within the bytes, and the code's way there fits a machine word.
-- Assumes nothing.
use Prim.Native.Nat.{ℕ, ◌+◌, ◌*◌, ◌≤◌, ◌<◌}
use mathlib.Core.List.{List}
use native.Mathlib.Omega.{arith}
use native.Mathlib.Nat.{mul-le-mul}
use lib.ListN.{length}
use lib.Arith.{digits_lt}
use mir.Syntax.{w64}
use mir.Val.{Fits}

module _ (n a b : ℕ) (left_inside : a < n) (right_inside : b < n) where
  -- the place is within bytes that hold the table
  pub place_inside : (bytes : List ℕ) → 1 + n * n ≤ length bytes → 1 + (a * n + b) < length bytes
  place_inside bytes long = omega (arith, digits_lt left_inside right_inside)

  -- each number on the way to the place fits
  pub place_fits : n ≤ 64 → Fits w64 (1 + (a * n + b))
  place_fits small = omega (arith, digits_lt left_inside right_inside, mul-le-mul small small)

  pub entry_fits : n ≤ 64 → Fits w64 (a * n + b)
  entry_fits small = omega (arith, place_fits small)

pub row_fits : (n a : ℕ) → a < n → n ≤ 64 → Fits w64 (a * n)
row_fits n a h small = omega (arith, entry_fits n a a h h small)

-- The ways to a clamped grade, and the ends of one clamp over another. Assumes nothing.
use Prim.Native.Nat.{ℕ, ◌+◌, ◌*◌, ◌≤◌, ◌<◌}
use native.Mathlib.Omega.{arith}
use mathlib.Core.Path.{◌≡◌, ap₂}
use Rattle.temporal.specs.Clamps.{clamp}
use Rattle.until_clamps.specs.Clamps.{low_of, high_of, over}

module _ (low high r : ℕ) where
  pub clamped_low : high < r → high < low → low ≡ clamp low high r
  unfolding clamp
  clamped_low h l = omega arith

  pub clamped_high : high < r → low ≤ high → high ≡ clamp low high r
  unfolding clamp
  clamped_high h l = omega arith

  pub clamped_under : r ≤ high → r < low → low ≡ clamp low high r
  unfolding clamp
  clamped_under h l = omega arith

  pub clamped_same : r ≤ high → low ≤ r → r ≡ clamp low high r
  unfolding clamp
  clamped_same h l = omega arith

  -- a clamp of grades is a grade
  pub clamp_small : low ≤ 3 → high ≤ 3 → clamp low high r ≤ 3
  unfolding clamp
  clamp_small h l = omega arith

-- the ends of a byte of two grades
pub low_of_lem : (a b : ℕ) → a ≤ 3 → low_of (a + 4 * b) ≡ a
low_of_lem a b h = omega arith

pub high_of_lem : (a b : ℕ) → a ≤ 3 → high_of (a + 4 * b) ≡ b
high_of_lem a b h = omega arith

-- a byte is its ends
pub ends_same : (x y : ℕ) → low_of x ≡ low_of y → high_of x ≡ high_of y → x ≡ y
ends_same x y e f = omega arith

module _ (outer inner : ℕ) (h : outer < 16) where
  over_low_small : clamp (low_of outer) (high_of outer) (low_of inner) ≤ 3
  over_low_small = clamp_small (low_of outer) (high_of outer) (low_of inner) (omega arith) (omega arith)

  pub over_low : low_of (over outer inner) ≡ clamp (low_of outer) (high_of outer) (low_of inner)
  unfolding over
  over_low = low_of_lem (clamp (low_of outer) (high_of outer) (low_of inner)) (clamp (low_of outer) (high_of outer) (high_of inner)) over_low_small

  pub over_high : high_of (over outer inner) ≡ clamp (low_of outer) (high_of outer) (high_of inner)
  unfolding over
  over_high = high_of_lem (clamp (low_of outer) (high_of outer) (low_of inner)) (clamp (low_of outer) (high_of outer) (high_of inner)) over_low_small

  pub over_small : over outer inner < 16
  unfolding over
  over_small =
      let a = over_low_small in
      let b = clamp_small (low_of outer) (high_of outer) (high_of inner) (omega arith) (omega arith) in
      omega arith

-- the sum of two clamped ends
module _ (outer inner : ℕ) {a b : ℕ} where
  pub over_fits : outer < 16 → a ≡ clamp (low_of outer) (high_of outer) (low_of inner) → b ≡ clamp (low_of outer) (high_of outer) (high_of inner) → (a ≤ 3) × (b ≤ 3)
  over_fits h e f =
      (rw e (clamp_small (low_of outer) (high_of outer) (low_of inner) (omega arith) (omega arith)), rw f (clamp_small (low_of outer) (high_of outer) (high_of inner) (omega arith) (omega arith)))

  pub over_is : a ≡ clamp (low_of outer) (high_of outer) (low_of inner) → b ≡ clamp (low_of outer) (high_of outer) (high_of inner) → a + 4 * b ≡ over outer inner
  unfolding over
  over_is e f = ap₂ (λ (x y : ℕ). x + 4 * y) e f

-- A property of each number below a bound. Assumes nothing.
use Rattle.std.specs.Prelude.{ℕ, ◌<◌}

pub record EachBelow (P : ℕ → Type 0) (bound : ℕ) : Type 0 where
  pub each : (i : ℕ) → i < bound → P i

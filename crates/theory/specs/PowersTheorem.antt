-- The theorem on powers. Document 02, Job 10: "An associative finite table has an idempotent among each element's first n powers." Assumes nothing.
use Rattle.std.specs.Prelude.{ℕ, ◌<◌}
use Rattle.theory.specs.Rules.{Morphism, Lawful}
use Rattle.theory.specs.Pairs.{HasIdempotentPower}

pub record PowersTheorem : Type 0 where
  pub settles : (m : Morphism) → Lawful m → (x : ℕ) → x < m.size → HasIdempotentPower m x

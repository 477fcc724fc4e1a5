-- A number that was raised to the highest at which a test passes, said by what it is at least. Assumes nothing.
use Rattle.std.specs.Prelude.{ℕ, ◌≤◌, Bool, ◌⊎◌, ◌↔◌, T}

-- the number after it is at least what the number before was, and what passes the test, and no more
pub record Raised (test : ℕ → Bool) (before after : ℕ) : Type 0 where
  pub least : (g : ℕ) → 1 ≤ g → (g ≤ after) ↔ ((g ≤ before) ⊎ T (test g))

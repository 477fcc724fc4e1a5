-- The words that a call takes. Assumes nothing.
use Rattle.std.specs.Prelude.{ℕ, ◌≤◌, List, length}
use Rattle.theory.specs.Words.{Over}

-- a word whose value is worked out: with a letter or more, each below k
pub record CallWord (k : ℕ) (w : List ℕ) : Type 0 where
  pub over : Over k w
  pub some : 1 ≤ length w
  pub short : length w ≤ 4224

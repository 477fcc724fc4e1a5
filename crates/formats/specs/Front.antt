-- Bytes at the front of a buffer. Assumes nothing.
use Rattle.std.specs.Prelude.{ℕ, ◌≡◌, List, ◌++◌, length, drop}

-- the bytes stand at the front of the buffer, the rest of it is as it was, and r is their number
pub record AtFront (bytes entry exit : List ℕ) (r : ℕ) : Type 0 where
  pub holds : exit ≡ bytes ++ drop (length bytes) entry
  pub counts : r ≡ length bytes

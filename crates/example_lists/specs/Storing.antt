-- Bytes that are stored in a lent buffer as far as it has room for them. Assumes nothing.
use Rattle.std.specs.Prelude.{ℕ, ◌+◌, min, ◌≡◌, List, ◌++◌, length, take, drop}
use Rattle.std.proofs.lemmas.List.Edits.{sets}

-- the bytes were stored from a place on, those past the buffer's end left out; `end` is the place after them, at most the buffer's end
pub record Stored (before : List ℕ) (at : ℕ) (bytes now : List ℕ) (end : ℕ) : Type 0 where
  pub holds : now ≡ sets before at bytes
  pub ends : end ≡ min (at + length bytes) (length before)

-- the buffer begins with as many of the bytes as it has room for, and goes on as it was; `count` is how many these are
pub record ListStored (before bytes now : List ℕ) (count : ℕ) : Type 0 where
  pub holds : now ≡ take (length before) bytes ++ drop (length bytes) before
  pub counts : count ≡ min (length bytes) (length before)

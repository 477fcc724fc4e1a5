-- What the functions of this crate ask for and what they write: bytes put into a lent buffer at a place, with every other byte
-- as it was. Assumes nothing.
use Rattle.std.specs.Prelude.{ℕ, ◌+◌, ◌*◌, ◌≤◌, ◌<◌, ◌≡◌, cond, List, [], ◌∷◌, ◌++◌, ltb, length, get_or, take, drop}
use Rattle.theory.specs.Rules.{Marking}
use Rattle.formats.specs.RuleFile.{mark_width}
use Rattle.scratch.specs.Map.{mark_table_size}

-- a buffer with the bytes put in place of its own from a place on
unfoldable pub placed : List ℕ → ℕ → List ℕ → List ℕ
placed buffer at bytes = take at buffer ++ (bytes ++ drop (at + length bytes) buffer)

-- the bytes were put there, and `end` is the place after them
pub record Written (before : List ℕ) (at : ℕ) (bytes after : List ℕ) (end : ℕ) : Type 0 where
  pub holds : after ≡ placed before at bytes
  pub ends : end ≡ at + length bytes

-- the marking with the number of the pair (s, e) in byte s·64+e
unfoldable pub table_marks : List ℕ → Marking
table_marks marks s e = get_or marks (s * 64 + e) 0

-- the bytes of a pair and its grade where it is marked, and none where it is not
unfoldable pub mark_if_any : Marking → ℕ → ℕ → List ℕ
mark_if_any marks s e = cond (ltb 0 (marks s e)) (s ∷ e ∷ marks s e ∷ []) []

-- `count` bytes to copy, and room for them at a place
pub record CopyNeeds (from : List ℕ) (count : ℕ) (out : List ℕ) (at : ℕ) : Type 0 where
  pub enough : count ≤ length from
  pub room : at + count ≤ length out

-- entries to write after their count, and room for both
pub record CountedNeeds (entries : List ℕ) (count size : ℕ) (out : List ℕ) (at : ℕ) : Type 0 where
  pub small : count < 256
  pub enough : size ≤ length entries
  pub room : at + (1 + size) ≤ length out

-- a pair of elements in a table of marks, and room for its bytes
pub record MarkNeeds (marks : List ℕ) (s e : ℕ) (out : List ℕ) (at : ℕ) : Type 0 where
  pub long : mark_table_size ≤ length marks
  pub start_inside : s < 64
  pub cycle_inside : e < 64
  pub room : at + mark_width ≤ length out

-- Bytes of a lent buffer that stay as they were. Assumes nothing.
use Rattle.std.specs.Prelude.{ℕ, ◌≤◌, ◌<◌, ◌≡◌, List, length, get_or}

-- every byte outside a part is as it was
pub record UnchangedOutside (from to : ℕ) (entry exit : List ℕ) : Type 0 where
  pub same_length : length exit ≡ length entry
  pub before : (i : ℕ) → i < from → get_or exit i 0 ≡ get_or entry i 0
  pub after : (i : ℕ) → to ≤ i → get_or exit i 0 ≡ get_or entry i 0

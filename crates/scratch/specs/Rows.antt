-- Bytes filled one after the other, and row after row. Assumes nothing.
use Rattle.std.specs.Prelude.{ℕ, ◌+◌, ◌*◌, ◌<◌, List, get_or}
use Rattle.scratch.specs.Bytes.{UnchangedOutside}

-- byte base + j holds what P asks for j, for the first j, and every other byte is as it was
pub record RowFilled (P : ℕ → ℕ → Type 0) (base count : ℕ) (entry now : List ℕ) : Type 0 where
  pub filled : (j : ℕ) → j < count → P j (get_or now (base + j) 0)
  pub kept : UnchangedOutside base (base + count) entry now

-- byte base + (i·stride + j) holds what P asks for i and j, in the first rows, each of so many bytes, and every byte outside the rows is as
-- it was
pub record RowsFilled (P : ℕ → ℕ → ℕ → Type 0) (base stride width rows : ℕ) (entry now : List ℕ) : Type 0 where
  pub filled : (i j : ℕ) → i < rows → j < width → P i j (get_or now (base + (i * stride + j)) 0)
  pub kept : UnchangedOutside base (base + rows * stride) entry now

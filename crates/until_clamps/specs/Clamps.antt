-- Clamps in bytes. Assumes nothing.
use Rattle.std.specs.Prelude.{ℕ, ◌+◌, ◌*◌, ◌/◌, ◌%◌}
use Rattle.temporal.specs.Clamps.{clamp}

-- the ends of the clamp in a byte, "a byte lo + 4 · hi each"
abbrev pub low_of : ℕ → ℕ
low_of byte = byte % 4

abbrev pub high_of : ℕ → ℕ
high_of byte = byte / 4

-- both ends of the inner clamp clamped by the outer
unfoldable pub over : ℕ → ℕ → ℕ
over outer inner = clamp (low_of outer) (high_of outer) (low_of inner) + 4 * clamp (low_of outer) (high_of outer) (high_of inner)

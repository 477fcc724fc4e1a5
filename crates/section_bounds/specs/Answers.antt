-- What the answer of a search for a byte out of its range says. Assumes nothing.
use Rattle.std.specs.Prelude.{ℕ, List, Option, Some, None}
use Rattle.formats.proofs.Sections.{AllInRange, FirstOut}

-- the first byte out of its range, or all are in theirs
abbrev pub FoundOut : List ℕ → ℕ → ℕ → (ℕ → ℕ) → (ℕ → ℕ) → Option ℕ → Type 0
FoundOut bytes from count floor bound (Some i) = FirstOut bytes from count floor bound i
FoundOut bytes from count floor bound None = AllInRange bytes from count floor bound

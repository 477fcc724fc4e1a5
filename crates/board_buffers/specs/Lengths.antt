-- What is answered of the lengths of the lent buffers. Assumes nothing.
use Rattle.std.specs.Prelude.{ℕ, ◌≤◌, ◌<◌, Bool, true, false, ◌⊎◌}
use Rattle.formats.specs.RuleChecks.{scratch_size}
use Rattle.board_promises.specs.Boards.{files_size}

-- a buffer is too short, or neither is
abbrev pub ShortAnswer : ℕ → ℕ → Bool → Type 0
ShortAnswer files scratch true = (files < files_size) ⊎ (scratch < scratch_size)
ShortAnswer files scratch false = (files_size ≤ files) × (scratch_size ≤ scratch)

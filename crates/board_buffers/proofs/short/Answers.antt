-- `board_buffers::short` meets its contract: the files are looked at, and then scratch. Assumes nothing.
use mathlib.Core.Logic.{inl, inr}
use Rattle.board_buffers.proofs.short.Goals as goal

pub returns-then-files-lt-FILES_SIZE : goal.returns-then-files-lt-FILES_SIZE
returns-then-files-lt-FILES_SIZE c = inl c.if-files-lt-FILES_SIZE.true

pub returns-then-scratch-lt-SCRATCH_SIZE : goal.returns-then-scratch-lt-SCRATCH_SIZE
returns-then-scratch-lt-SCRATCH_SIZE c = inr c.if-scratch-lt-SCRATCH_SIZE.true

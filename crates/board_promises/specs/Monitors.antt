-- The arrays of a board, with an entry for each name, and the monitor of a name after a step. Assumes nothing.
use Rattle.std.specs.Prelude.{ℕ, ◌≡◌, List, length}
use Rattle.formats.specs.RuleFile.{morphism_of}
use Rattle.promises.specs.declared.Monitor.{Monitor}
use Rattle.promises.specs.declared.Step.{Step}
use Rattle.promises.specs.Advance.{after_step}
use Rattle.board_promises.specs.declared.Board.{Board}
use Rattle.board_promises.specs.Boards.{board_names_count, file_at, monitor_at}

-- the arrays of a board have eight entries
pub record Whole (b : Board) : Type 0 where
  pub flags : length b.present ≡ board_names_count
  pub befores : length b.before ≡ board_names_count
  pub sinces : length b.since ≡ board_names_count

-- the monitor of a name after the step
abbrev pub moved_at : Board → List ℕ → Step → ℕ → Monitor
moved_at b files step i = after_step (morphism_of (file_at files i)) (monitor_at b i) step

-- `theorems::exported_board_theorem` meets its contract. Assumes nothing.
use Rattle.unpacking.proofs.BoardRuns.{exported_board_theorem}
use Rattle.theorems.proofs.exported_board_theorem.Goals as goal

pub returns : goal.returns
returns c = exported_board_theorem

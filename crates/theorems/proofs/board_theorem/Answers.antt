-- `theorems::board_theorem` meets its contract. Assumes nothing.
use Rattle.board_histories.proofs.Theorem.{board_theorem}
use Rattle.theorems.proofs.board_theorem.Goals as goal

pub returns : goal.returns
returns c = board_theorem

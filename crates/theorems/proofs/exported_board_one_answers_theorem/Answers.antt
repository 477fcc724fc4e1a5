-- `theorems::exported_board_one_answers_theorem` meets its contract. Assumes nothing.
use Rattle.unpacking.proofs.BoardOneAnswer.{exported_board_one_answers}
use Rattle.theorems.proofs.exported_board_one_answers_theorem.Goals as goal

pub returns : goal.returns
returns c = exported_board_one_answers

-- `theorems::board_one_answers_theorem` meets its contract. Assumes nothing.
use Rattle.board_promises.proofs.OneAnswer.{board_one_answers}
use Rattle.theorems.proofs.board_one_answers_theorem.Goals as goal

pub returns : goal.returns
returns c = board_one_answers

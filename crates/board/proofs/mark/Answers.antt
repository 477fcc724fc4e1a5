-- `board::mark` meets its contract: no letter, so no more checks. Assumes nothing.
use Rattle.board.proofs.Answered.{mark_call}
use Rattle.board.proofs.mark.Goals as goal

pub returns : goal.returns
returns c = mark_call c.move_all.ensures

-- `board_answers::refuses` meets its contract, by the kinds of a notice. Assumes nothing.
use Rattle.board_answers.proofs.Notices.{refused_not_done}
use Rattle.board_answers.proofs.refuses.Goals as goal

pub returns-in-Refused : goal.returns-in-Refused
returns-in-Refused c = refused_not_done c.in-Refused.is

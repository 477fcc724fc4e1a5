-- `board_answers::after_leaving` meets its contract. Assumes nothing.
use mathlib.Core.Path.{refl}
use Rattle.board_answers.proofs.Notices.{said_refuses, said_done}
use Rattle.board_answers.specs.Answers.{pass_refuses, pass_done}
use Rattle.board_answers.proofs.after_leaving.Goals as goal

pub returns-then-refuses : goal.returns-then-refuses
returns-then-refuses c =
    pass_refuses (said_refuses _ c.refuses.result c.refuses.ensures c.if-refuses.true) refl

pub returns : goal.returns
returns c =
    pass_done (said_done _ c.refuses.result c.refuses.ensures c.if-refuses.false) refl

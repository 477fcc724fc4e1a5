-- `board_answers::after_step` meets its contract: a refusal first, then a foreign step. Assumes nothing.
use mathlib.Core.Path.{refl}
use Rattle.board_answers.proofs.Notices.{said_refuses, said_done}
use Rattle.board_answers.specs.Answers.{step_refuses, step_foreign, step_done}
use Rattle.board_answers.proofs.after_step.Goals as goal

pub returns-then-refuses : goal.returns-then-refuses
returns-then-refuses c =
    step_refuses (said_refuses _ c.refuses.result c.refuses.ensures c.if-refuses.true) refl

pub returns-then-foreign-lt8 : goal.returns-then-foreign-lt8
returns-then-foreign-lt8 c =
    step_foreign (said_done _ c.refuses.result c.refuses.ensures c.if-refuses.false) c.if-foreign-lt8.true c.refuse.ensures

pub returns : goal.returns
returns c =
    step_done (said_done _ c.refuses.result c.refuses.ensures c.if-refuses.false) c.if-foreign-lt8.false refl

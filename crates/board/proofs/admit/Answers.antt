-- `board::admit` meets its contract: everybody, then the file that enters. Assumes nothing.
use Rattle.board_answers.proofs.Notices.{said_refuses, said_done}
use Rattle.board.proofs.Answered.{admit_refused, admit_asked}
use Rattle.board.proofs.admit.Goals as goal

pub returns-then-refuses : goal.returns-then-refuses
returns-then-refuses c = record {
  pass = admit_refused c.visit_all-pass.ensures.pass (said_refuses _ c.refuses.result c.refuses.ensures c.if-refuses.true);
  scratch = c.visit_all-pass.ensures.scratch;
}

pub returns : goal.returns
returns c =
    let whole = admit_asked c.visit_all-pass.ensures.pass (said_done _ c.refuses.result c.refuses.ensures c.if-refuses.false) c.fresh.ensures c.requires.cleared
    c.visit_all-pass.ensures.scratch c.advance-answer.result c.advance-answer.ensures c.with_answer.ensures in record { pass = whole.0; scratch = whole.1 }

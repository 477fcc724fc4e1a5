-- `board_pass::visit` meets its contract: after a refusal nobody is asked, one that is absent is passed over, and another is asked by one library
-- call. Assumes nothing.
use mathlib.Core.Path.{refl, ap}
use borrow.Author.Tests.{not-true, not-false}
use Rattle.board_values.proofs.Flags.{said_present, said_absent, absent_of}
use Rattle.board_answers.proofs.Notices.{said_refuses, said_done}
use Rattle.board_pass.proofs.Visited.{pass_refused, pass_absent, pass_asked}
use mathlib.Core.Bool.{not}
use Rattle.board_pass.proofs.visit.Goals as goal

pub returns-then-refuses : goal.returns-then-refuses
returns-then-refuses c = record {
  pass = pass_refused _ _ _ _ c.requires.pass_at (said_refuses _ c.refuses.result c.refuses.ensures c.if-refuses.true);
  scratch = refl;
}

pub returns-then-not-there : goal.returns-then-not-there
returns-then-not-there c =
    let b = c.args.board in
    let i = c.args.i in record {
      pass = pass_absent _ _ _ _ c.requires.pass_at (absent_of b i c.requires.i_lt_board_names_count (said_absent b i c.there.result c.there.ensures (not-true _ (ap not c.if-not-there.true))));
      scratch = refl;
    }

pub returns : goal.returns
returns c =
    let whole = pass_asked _ _ _ _ c.requires.pass_at (said_done _ c.refuses.result c.refuses.ensures c.if-refuses.false)
    (said_present c.args.board c.args.i c.there.result c.there.ensures (not-false _ (ap not c.if-not-there.false))).1
    c.file_of.ensures c.monitor_of-monitor.ensures c.requires.i_lt_board_names_count c.requires.cleared c.advance-answer.result c.advance-answer.ensures c.told.ensures in record { pass = whole.0; scratch = whole.1 }

-- `mark_closure::close` meets its contract: once all factors were tried the second table has the closure, and the search compares it
-- with the marks. Assumes nothing.
use Rattle.mark_closure.proofs.Passes.{advanced_all}
use Rattle.mark_closure.proofs.Answers.{closure-answer}
use Rattle.mark_closure.proofs.close.Goals as goal

pub returns : goal.returns
returns c =
    closure-answer c.requires.table.small c.requires.closure_room (advanced_all c.requires.table.small c.requires.lawful c.requires.closure_room c.close_pairs.ensures)
    c.within.result c.within.ensures

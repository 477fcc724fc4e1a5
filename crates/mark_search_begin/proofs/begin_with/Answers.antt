-- A pair below the least grade adds nothing; any other adds its state. Assumes nothing.
use Rattle.mark_search_begin.proofs.Beginning.{not_begun, begun_with}
use Rattle.mark_search_begin.proofs.begin_with.Goals as goal

pub returns-then-least-mark : goal.returns-then-least-mark
returns-then-least-mark c = begun_with _ c.requires.begin_needs c.requires.e_lt_n c.if-least-mark.true c.add.ensures

pub returns : goal.returns
returns c = not_begun _ c.requires.begin_needs c.requires.e_lt_n c.if-least-mark.false

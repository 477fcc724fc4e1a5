-- `section_columns::triples_in` meets its contract: the loops keep for each place a byte that none there is above and one that none is
-- below, and where those are in the ranges all are. Assumes nothing.
use Rattle.section_columns.proofs.Places.{NotAbove, NotBelow, Kept}
use Rattle.section_columns.proofs.triples_in.Given as goal

abbrev pub invariant-loop-j : goal.invariant-loop-j
invariant-loop-j l = Kept NotAbove l.rest l.top l.c l.j × Kept NotBelow l.rest l.low l.c l.j

abbrev pub invariant-loop-c : goal.invariant-loop-c
invariant-loop-c l = Kept NotAbove l.rest l.top l.c 0 × Kept NotBelow l.rest l.low l.c 0

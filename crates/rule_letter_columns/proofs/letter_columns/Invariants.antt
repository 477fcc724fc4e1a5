-- The loops hold the columns that were filled, and the part of the one that is being filled. The measures are the numbers of columns and
-- of elements left. Assumes nothing.
use Rattle.rule_letter_columns.proofs.Passed.{ColumnsTo, Filling}
use Rattle.rule_letter_columns.proofs.letter_columns.Given as goal

abbrev pub invariant-loop-x : goal.invariant-loop-x
invariant-loop-x l = Filling l.rule l.n l.queue l.columns l.j l.h l.x

abbrev pub invariant-loop-j : goal.invariant-loop-j
invariant-loop-j l = ColumnsTo l.rule l.n l.queue l.columns l.j 0

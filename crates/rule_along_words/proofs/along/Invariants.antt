-- The loop holds that (y·p)·h is y·s for every y that was passed, where the flag stands. The measure is the number of elements left. Assumes nothing.
use Rattle.rule_along_words.proofs.Passed.{AlongBefore}
use Rattle.rule_along_words.proofs.along.Given as goal

abbrev pub invariant-loop-x : goal.invariant-loop-x
invariant-loop-x l = AlongBefore l.rule l.n l.k l.columns l.j l.p l.s l.same l.x

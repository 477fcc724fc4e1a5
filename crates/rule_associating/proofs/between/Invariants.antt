-- The loop holds that (g·y)·h is g·(y·h) for every y that was passed, where the flag stands. The measure is the number of elements left. Assumes nothing.
use Rattle.rule_associating.proofs.Passed.{BetweenBefore}
use Rattle.rule_associating.proofs.between.Given as goal

abbrev pub invariant-loop-x : goal.invariant-loop-x
invariant-loop-x l = BetweenBefore l.rule l.n l.k l.columns l.j l.g l.same l.x

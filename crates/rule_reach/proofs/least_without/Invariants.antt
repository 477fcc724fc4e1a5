-- The loop holds that every element before the one at hand has a number; it ends at the first that has none, or after all.
-- The measure is the number of elements left. Assumes nothing.
use Rattle.rule_reach.specs.Reach.{NoneWithout}
use Rattle.rule_reach.proofs.least_without.Given as goal

abbrev pub invariant-loop-s : goal.invariant-loop-s
invariant-loop-s l = NoneWithout l.queue l.s

-- The loop holds that the entries before the one at hand were tried with every letter; each turn tries one entry more. There
-- are at most n entries besides the first, so n + 1 less the entry is a measure. Assumes nothing.
use Prim.Native.Nat.{◌+◌, ◌-◌}
use Rattle.rule_reach.proofs.Laws.{Reaching}
use Rattle.rule_reach.proofs.reach.Given as goal

abbrev pub invariant-loop-from : goal.invariant-loop-from
invariant-loop-from l = Reaching l.rule l.n l.k l.initial.queue l.queue l.count l.from

abbrev pub decreases-loop-from : goal.decreases-loop-from
decreases-loop-from l = l.n + 1 - l.from

-- The loop holds that the letters before the one at hand were tried at the entry; each turn tries one more and adds what it
-- finds. The measure is the number of letters left. Assumes nothing.
use Rattle.rule_reach.proofs.Laws.{Expanding}
use Rattle.rule_reach.proofs.expand.Given as goal

abbrev pub invariant-loop-letter : goal.invariant-loop-letter
invariant-loop-letter l = Expanding l.rule l.n l.k l.initial.queue l.from l.queue l.found l.letter

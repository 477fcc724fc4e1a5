-- The loop holds that the letters before the one at hand were tried at the entry. The measure is the number of letters left. Assumes nothing.
use Rattle.pair_list.proofs.Laws.{Expanding}
use Rattle.pair_list.proofs.expand.Given as goal

abbrev pub invariant-loop-letter : goal.invariant-loop-letter
invariant-loop-letter l = Expanding l.first l.n1 l.second l.n2 l.k l.initial.scratch l.from l.scratch l.total l.letter

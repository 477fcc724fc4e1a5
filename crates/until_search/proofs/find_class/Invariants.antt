-- The loop holds that none of the classes so far is the one. Assumes nothing.
use Rattle.until_search.proofs.Finding.{Unfound}
use Rattle.until_search.proofs.find_class.Given as goal

abbrev pub invariant-loop-j : goal.invariant-loop-j
invariant-loop-j l = Unfound l.np l.scratch l.classes l.count l.pair l.j

-- The three loops pass the triples in order, and every triple passed associates; they end at the first that does not, or
-- past all of them. Assumes nothing.
use Rattle.rule_table.proofs.Searched.{Searched}
use Rattle.rule_table.proofs.first_not_associative.Given as goal

abbrev pub invariant-loop-c : goal.invariant-loop-c
invariant-loop-c l = Searched l.rule l.n l.k l.a l.b l.c

abbrev pub invariant-loop-b : goal.invariant-loop-b
invariant-loop-b l = Searched l.rule l.n l.k l.a l.b 0

abbrev pub invariant-loop-a : goal.invariant-loop-a
invariant-loop-a l = Searched l.rule l.n l.k l.a 0 0

abbrev pub invariant-search : goal.invariant-search
invariant-search l = Unit {0}

abbrev pub decreases-search : goal.decreases-search
decreases-search l = 0

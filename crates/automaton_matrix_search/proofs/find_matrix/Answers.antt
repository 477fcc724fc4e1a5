-- The loop holds that none of the first i matrices has the entries of m. Assumes nothing.
use borrow.Author.Rules.{rules}
use Rattle.automaton_matrix_search.proofs.Finding.{list_place, found_here, unfound_more, unfound_all}
use Rattle.automaton_matrix_search.proofs.find_matrix.Goals as goal

pub same_stored-requires : goal.same_stored-requires
same_stored-requires c = (search rules, list_place c.requires (search rules))

pub returns-then-same_stored : goal.returns-then-same_stored
returns-then-same_stored c = found_here c.loop-i.invariant c.loop-i-test.true c.same_stored.ensures c.if-same_stored.true

pub loop-i-preserved : goal.loop-i-preserved
loop-i-preserved c = unfound_more c.loop-i.invariant c.loop-i-test.true c.same_stored.ensures c.if-same_stored.false

pub returns : goal.returns
returns c = unfound_all c.loop-i.invariant c.loop-i-test.false

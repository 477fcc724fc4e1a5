-- The loop holds that the letters before the one at hand were handed over. Assumes nothing.
use Rattle.mark_search_letters.proofs.Taking.{expanded_start, expanded_place, expanded_next, expanded_all}
use Rattle.mark_search_letters.proofs.expand.Goals as goal

pub loop-a-init : goal.loop-a-init
loop-a-init c = expanded_start c.requires.expand_needs

pub take_letter-total-requires : goal.take_letter-total-requires
take_letter-total-requires c = record {
  table = c.requires.table;
  expand_needs = expanded_place c.requires.expand_needs c.loop-a.invariant;
  a_lt_k = c.loop-a-test.true;
}

pub loop-a-preserved : goal.loop-a-preserved
loop-a-preserved c = expanded_next c.requires.expand_needs c.loop-a.invariant c.take_letter-total.ensures

pub shape_of-scratch : goal.shape_of-scratch
shape_of-scratch c = c.loop-a.invariant.found.grown.kept.same_length

pub returns : goal.returns
returns c = expanded_all c.requires.expand_needs c.loop-a.invariant c.loop-a-test.false

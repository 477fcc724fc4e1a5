-- The loop holds that the letters before the one at hand were tried at the entry; each turn tries one more and adds what it
-- finds. The measure is the number of letters left. Assumes nothing.
use Rattle.rule_reach.proofs.Laws.{expanding_start, expanding_next, expanding_done, expanding_step, expanding_add}
use Rattle.rule_reach.proofs.expand.Goals as goal

pub loop-letter-init : goal.loop-letter-init
loop-letter-init c = expanding_start c.requires.table c.requires.searching c.requires.from_le_count

pub step-s-requires : goal.step-s-requires
step-s-requires c = expanding_step c.loop-letter.invariant c.loop-letter-test.true

pub add-found-requires : goal.add-found-requires
add-found-requires c = expanding_add c.loop-letter.invariant c.loop-letter-test.true c.step-s.ensures

pub loop-letter-preserved : goal.loop-letter-preserved
loop-letter-preserved c =
    expanding_next c.loop-letter.invariant c.loop-letter-test.true c.step-s.ensures c.add-found.ensures

pub shape_of-queue : goal.shape_of-queue
shape_of-queue c = c.loop-letter.invariant.kept.same_length

pub returns : goal.returns
returns c = expanding_done c.loop-letter.invariant c.loop-letter-test.false

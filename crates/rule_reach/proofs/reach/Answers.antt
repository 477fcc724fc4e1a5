-- The loop holds that the entries before the one at hand were tried with every letter; each turn tries one entry more. There
-- are at most n entries besides the first, so n + 1 less the entry is a measure. Assumes nothing.
use Rattle.rule_reach.proofs.Laws.{reaching_start, reaching_next, reaching_done}
use Rattle.rule_reach.proofs.reach.Goals as goal

pub loop-from-init : goal.loop-from-init
loop-from-init c = reaching_start c.requires.table c.requires.empty

pub expand-count-requires : goal.expand-count-requires
expand-count-requires c = record {
  table = c.loop-from.invariant.table;
  searching = c.loop-from.invariant.searching;
  from_le_count = c.loop-from-test.true;
}

pub loop-from-preserved : goal.loop-from-preserved
loop-from-preserved c = reaching_next c.loop-from.invariant c.expand-count.ensures

pub shape_of-queue : goal.shape_of-queue
shape_of-queue c = c.loop-from.invariant.kept.same_length

pub returns : goal.returns
returns c = reaching_done c.loop-from.invariant c.loop-from-test.false

-- The loop holds that the entries before the one at hand were tried with every letter. There are at most 64 besides the first, so 65 less
-- the entry is a measure. Assumes nothing.
use Rattle.pair_list.proofs.Laws.{listing_start, listing_try, listing_next, listing_full, listing_done}
use Rattle.pair_list.proofs.list_pairs.Goals as goal

pub loop-from-init : goal.loop-from-init
loop-from-init c = listing_start c.requires.two_tables c.requires.empty

pub expand-requires : goal.expand-requires
expand-requires c = record {
  two_tables = c.loop-from.invariant.tables;
  trying = listing_try c.loop-from.invariant c.loop-from-test.true;
}

pub returns-in_err-count : goal.returns-in_err-count
returns-in_err-count c = rw c.from_residual.ensures (listing_full c.loop-from.invariant c.expand.ensures c.in_err-count.was)

pub loop-from-preserved : goal.loop-from-preserved
loop-from-preserved c =
    listing_next c.loop-from.invariant c.expand.ensures c.in_ok-count.was

pub returns : goal.returns
returns c = listing_done c.loop-from.invariant c.requires.le_k c.loop-from-test.false

-- The loop holds that the entries before the one at hand were followed. There are at most 64 besides the first, so 65 less the entry is a measure. Assumes
-- nothing.
use Rattle.next_list.proofs.Loops.{entries_next, entries_full, entries_done}
use Rattle.next_list.proofs.list_next.Goals as goal

pub follow_entry-requires : goal.follow_entry-requires
follow_entry-requires c = record {
  table = c.requires.table;
  lawful = c.requires.lawful;
  listing = c.loop-from.invariant.listing;
  from_le_count = c.loop-from-test.true;
}

pub returns-in_err-count : goal.returns-in_err-count
returns-in_err-count c = rw c.from_residual.ensures (entries_full c.loop-from.invariant c.follow_entry.ensures c.in_err-count.was)

pub loop-from-preserved : goal.loop-from-preserved
loop-from-preserved c =
    entries_next c.loop-from.invariant c.follow_entry.ensures c.in_ok-count.was

pub returns : goal.returns
returns c = entries_done c.loop-from.invariant c.loop-from-test.false

-- The loop holds that the letters before the one at hand were followed. Assumes nothing.
use Rattle.next_list.proofs.Loops.{following_inside, following_next, following_full, following_done}
use Rattle.next_list.proofs.follow_entry.Goals as goal

pub follow_letter-requires : goal.follow_letter-requires
follow_letter-requires c = record {
  table = c.requires.table;
  lawful = c.requires.lawful;
  listing = c.loop-letter.invariant.grown.listing;
  from_le_count = (following_inside c.loop-letter.invariant, c.loop-letter-test.true);
}

pub returns-in_err-total : goal.returns-in_err-total
returns-in_err-total c = rw c.from_residual.ensures (following_full c.loop-letter.invariant c.follow_letter.ensures c.in_err-total.was)

pub loop-letter-preserved : goal.loop-letter-preserved
loop-letter-preserved c =
    following_next c.loop-letter.invariant c.follow_letter.ensures c.in_ok-total.was c.loop-letter-test.true

pub returns : goal.returns
returns c = following_done c.loop-letter.invariant c.loop-letter-test.false

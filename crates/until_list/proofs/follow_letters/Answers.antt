-- The loop holds that the letters before the one at hand were followed. Assumes nothing.
use Rattle.until_list.proofs.Letters.{letter_ready, following_next, following_full, following_done}
use Rattle.until_list.proofs.follow_letters.Goals as goal

pub follow_letter-requires : goal.follow_letter-requires
follow_letter-requires c =
    letter_ready c.loop-letter.invariant c.requires c.loop-letter-test.true

pub returns-in_err-total : goal.returns-in_err-total
returns-in_err-total c = rw c.from_residual.ensures (following_full c.loop-letter.invariant c.follow_letter.ensures c.loop-letter-test.true c.in_err-total.was)

pub loop-letter-preserved : goal.loop-letter-preserved
loop-letter-preserved c =
    following_next c.loop-letter.invariant c.follow_letter.ensures c.loop-letter-test.true c.in_ok-total.was

pub returns : goal.returns
returns c = following_done c.loop-letter.invariant c.loop-letter-test.false

-- The loop holds that the letters before the one at hand were tried at the entry. The measure is the number of letters left. Assumes nothing.
use Rattle.pair_list.proofs.Laws.{expanding_next, expanding_full, expanding_done}
use Rattle.pair_list.proofs.expand.Goals as goal

pub try_letter-requires : goal.try_letter-requires
try_letter-requires c = record {
  two_tables = c.loop-letter.invariant.tables;
  trying = c.loop-letter.invariant.trying;
  letter_lt_k = c.loop-letter-test.true;
}

pub returns-in_err-total : goal.returns-in_err-total
returns-in_err-total c = rw c.from_residual.ensures (expanding_full c.loop-letter.invariant c.try_letter.ensures c.in_err-total.was)

pub loop-letter-preserved : goal.loop-letter-preserved
loop-letter-preserved c =
    expanding_next c.loop-letter.invariant c.loop-letter-test.true c.try_letter.ensures c.in_ok-total.was

pub returns : goal.returns
returns c = expanding_done c.loop-letter.invariant c.loop-letter-test.false

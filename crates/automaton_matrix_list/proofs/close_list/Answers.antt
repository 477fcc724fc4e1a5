-- The loop holds that the matrices before the one at hand were multiplied; there are at most 64. Assumes nothing.
use Rattle.automaton_matrix_list.proofs.Closing.{closing_next, closing_full, closing_done}
use Rattle.automaton_matrix_list.proofs.close_list.Goals as goal

pub add_products-requires : goal.add_products-requires
add_products-requires c = record {
  letter_list = c.loop-from.invariant.letters;
  from_lt_count = c.loop-from-test.true;
  lent_table = c.requires.lent_table;
}

pub returns-in_err-count : goal.returns-in_err-count
returns-in_err-count c = rw c.from_residual.ensures (closing_full c.loop-from.invariant c.add_products.ensures c.in_err-count.was)

pub loop-from-preserved : goal.loop-from-preserved
loop-from-preserved c = closing_next c.loop-from.invariant c.loop-from-test.true c.add_products.ensures c.in_ok-count.was

pub returns : goal.returns
returns c = closing_done c.loop-from.invariant c.requires.le_k c.loop-from-test.false

-- The loop holds that the letters so far were followed from the matrix at hand. Assumes nothing.
use native.Mathlib.Omega.{arith}
use borrow.Author.Rules.{rules}
use Rattle.automaton_matrix_list.proofs.Following.{step_listed, step_full}
use Rattle.automaton_matrix_list.proofs.Multiplying.{from_place, left_shape, right_place, right_shape, multiplied_next, multiplied_full, multiplied_all}
use Rattle.automaton_matrix_list.proofs.add_products.Goals as goal

pub load_matrix-left-requires : goal.load_matrix-left-requires
load_matrix-left-requires c = from_place c.requires.letter_list c.requires.from_lt_count

pub load_matrix-right-requires : goal.load_matrix-right-requires
load_matrix-right-requires c = right_place c.requires.letter_list c.requires.from_lt_count c.loop-letter.invariant.1 c.loop-letter-test.true

pub any_product-m-requires : goal.any_product-m-requires
any_product-m-requires c =
    let left = left_shape c.requires.letter_list c.requires.from_lt_count c.load_matrix-left.ensures in
    let right = right_shape c.requires.letter_list c.requires.from_lt_count c.loop-letter.invariant.1 c.loop-letter-test.true c.load_matrix-right.ensures in record {
      n_bound = c.requires.letter_list.list.few_states;
      matrix_shape = (left, right);
      lent_table = c.requires.lent_table;
    }

pub add_step-requires : goal.add_step-requires
add_step-requires c = record {
  matrix_list = c.loop-letter.invariant.1.letters.list;
  matrix_shape = c.any_product-m.ensures.shape;
  parent_le_count = (omega (arith, c.requires.from_lt_count, c.loop-letter.invariant.1.grown.more), omega (arith, c.requires.letter_list.few_letters));
}

pub returns-in_err-total : goal.returns-in_err-total
returns-in_err-total c = rw c.from_residual.ensures (multiplied_full c.requires.letter_list c.requires.from_lt_count c.loop-letter.invariant.1 c.loop-letter-test.true c.load_matrix-left.ensures c.load_matrix-right.ensures c.any_product-m.ensures (step_full c.add_step.ensures c.in_err-total.was) c.add_step.ensures.kept)

pub loop-letter-preserved : goal.loop-letter-preserved
loop-letter-preserved c = (search rules, multiplied_next c.requires.letter_list c.requires.from_lt_count c.loop-letter.invariant.1 c.loop-letter-test.true c.load_matrix-left.ensures c.load_matrix-right.ensures c.any_product-m.ensures (step_listed c.add_step.ensures c.in_ok-total.was))

pub returns : goal.returns
returns c = multiplied_all c.requires.letter_list c.requires.from_lt_count c.loop-letter.invariant.1 c.loop-letter.invariant.0 c.loop-letter-test.false

-- The loop holds that the letters so far were followed from the empty word. Assumes nothing.
use native.Mathlib.Omega.{arith}
use borrow.Author.Rules.{rules}
use Rattle.automaton_matrix_list.proofs.Words.{letter_word}
use Rattle.automaton_matrix_list.proofs.Following.{step_listed, step_full, following_next, following_full, following_all}
use Rattle.automaton_matrix_list.proofs.Letters.{letter_place_lem, letter_made}
use Rattle.automaton_matrix_list.proofs.add_letters.Goals as goal

pub letter_matrix-m-requires : goal.letter_matrix-m-requires
letter_matrix-m-requires c = letter_place_lem c.requires c.loop-letter.invariant.1.taken.words.list c.loop-letter-test.true

pub add_step-requires : goal.add_step-requires
add_step-requires c = record {
  matrix_list = c.loop-letter.invariant.1.taken.words.list;
  matrix_shape = c.letter_matrix-m.ensures.shape;
  parent_le_count = (omega arith, omega (arith, c.requires.few_letters));
}

pub returns-in_err-total : goal.returns-in_err-total
returns-in_err-total c = rw c.from_residual.ensures (following_full c.requires (omega arith) c.loop-letter.invariant.1 c.loop-letter-test.true (letter_word c.loop-letter-test.true c.letter_matrix-m.ensures) (letter_made c.letter_matrix-m.ensures) (step_full c.add_step.ensures c.in_err-total.was) c.add_step.ensures.kept)

pub loop-letter-preserved : goal.loop-letter-preserved
loop-letter-preserved c = (search rules, following_next c.requires (omega arith) c.loop-letter.invariant.1 c.loop-letter-test.true (letter_word c.loop-letter-test.true c.letter_matrix-m.ensures) (letter_made c.letter_matrix-m.ensures) (step_listed c.add_step.ensures c.in_ok-total.was))

pub returns : goal.returns
returns c = following_all c.requires (omega arith) c.loop-letter.invariant.1 c.loop-letter.invariant.0 c.loop-letter-test.false

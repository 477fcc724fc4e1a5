-- The loop holds that the first p rows are those of the letter's matrix. Assumes nothing.
use borrow.Author.Rules.{rules}
use Rattle.automaton_products.proofs.Rows.{rows_none, rows_more}
use Rattle.automaton_matrices.proofs.Letters.{letter_filled}
use Rattle.automaton_matrices.proofs.letter_matrix.Goals as goal

pub loop-p-init : goal.loop-p-init
loop-p-init c = (search rules, rows_none)

pub letter_row-requires : goal.letter_row-requires
letter_row-requires c = record {
  letter_needs = c.requires;
  p_lt_n = c.loop-p-test.true;
}

pub loop-p-preserved : goal.loop-p-preserved
loop-p-preserved c = (search rules, rows_more c.loop-p.invariant.1 (search rules) c.letter_row.ensures)

pub returns : goal.returns
returns c = letter_filled c.requires c.loop-p.invariant.0 c.loop-p-test.false c.loop-p.invariant.1

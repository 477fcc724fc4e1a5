-- The loop holds that the first q entries of the row are those of the letter's matrix. Assumes nothing.
use borrow.Author.Rules.{rules}
use Rattle.automaton_products.proofs.Rows.{row_none, row_more, row_all}
use Rattle.automaton_matrices.proofs.Letters.{entry_place}
use Rattle.automaton_matrices.proofs.letter_row.Goals as goal

pub loop-q-init : goal.loop-q-init
loop-q-init c = (search rules, row_none)

pub letter_entry-requires : goal.letter_entry-requires
letter_entry-requires c = entry_place c.requires.letter_needs c.requires.p_lt_n c.loop-q-test.true

pub loop-q-preserved : goal.loop-q-preserved
loop-q-preserved c = (search rules, row_more c.loop-q.invariant.1 (search rules) c.letter_entry.ensures)

pub returns : goal.returns
returns c = row_all c.loop-q.invariant.0 c.loop-q-test.false c.loop-q.invariant.1

-- The loop holds that the first p rows are read. Assumes nothing.
use borrow.Author.Rules.{rules}
use Rattle.automaton_products.proofs.Rows.{rows_none, rows_more}
use Rattle.automaton_matrices.proofs.Storing.{row_room, row_loaded, loaded_matrix}
use Rattle.automaton_matrices.proofs.load_matrix.Goals as goal

pub loop-p-init : goal.loop-p-init
loop-p-init c = (search rules, rows_none)

pub load_row-requires : goal.load_row-requires
load_row-requires c = row_room c.requires c.loop-p-test.true

pub loop-p-preserved : goal.loop-p-preserved
loop-p-preserved c = (search rules, rows_more c.loop-p.invariant.1 (search rules) (row_loaded _ _ _ _ c.load_row.ensures))

pub returns : goal.returns
returns c = loaded_matrix c.loop-p.invariant.0 c.loop-p-test.false c.loop-p.invariant.1

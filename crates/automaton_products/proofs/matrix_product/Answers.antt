-- The loop holds that the first p rows are those of the product. Assumes nothing.
use borrow.Author.Rules.{rules}
use Rattle.automaton_products.proofs.Entries.{row_of_product}
use Rattle.automaton_products.proofs.Rows.{rows_more}
use Rattle.automaton_products.proofs.Products.{product_filled}
use Rattle.automaton_products.proofs.matrix_product.Goals as goal

pub loop-p-preserved : goal.loop-p-preserved
loop-p-preserved c = (search rules, rows_more c.loop-p.invariant.1 (search rules) (row_of_product _ _ _ _ c.product_row.ensures))

pub returns : goal.returns
returns c = product_filled c.requires.n_bound c.requires.matrix_shape.0 c.requires.matrix_shape.1 c.loop-p.invariant.0 c.loop-p-test.false c.loop-p.invariant.1

-- `reduce_marks::mark_byte` meets its contract: each way through the tests is one of its cases. Assumes nothing.
use Rattle.reduce_table.proofs.Blocks.{mark_not_square, mark_moves, mark_linked}
use Rattle.reduce_marks.proofs.mark_byte.Goals as goal

pub returns-then-square-j : goal.returns-then-square-j
returns-then-square-j c = mark_not_square _ _ _ _ c.laid_product-square.ensures c.if-square-j.true

pub returns-then-kept-i : goal.returns-then-kept-i
returns-then-kept-i c =
    mark_moves _ _ _ _ c.laid_product-square.ensures c.if-square-j.false c.laid_product-kept.ensures c.if-kept-i.true

pub returns : goal.returns
returns c =
    mark_linked _ _ _ _ c.laid_product-square.ensures c.if-square-j.false c.laid_product-kept.ensures c.if-kept-i.false
    c.block_outcome.ensures

-- The outer loop holds the row of the product by the first r states, the inner one that of its first q entries by one state more.
-- Assumes nothing.
use Rattle.automaton_products.proofs.Entries.{RowBy, RowThrough}
use Rattle.automaton_products.proofs.product_row.Given as goal

abbrev pub invariant-loop-r : goal.invariant-loop-r
invariant-loop-r l = RowBy l.n l.row l.right l.r l.out

abbrev pub invariant-loop-q : goal.invariant-loop-q
invariant-loop-q l = RowThrough l.n l.row l.right l.r l.q l.out

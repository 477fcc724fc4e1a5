-- `reduce_table::table_row` meets its contract: the pairs (i, j) that were passed have their products. Assumes nothing.
use Prim.Native.Nat.{◌+◌, ◌*◌, ◌≤◌}
use Rattle.scratch.specs.Map.{laid_products_base}
use Rattle.reduce_table.specs.Layout.{block_product, Filled}
use Rattle.reduce_table.proofs.table_row.Given as goal

abbrev pub invariant-loop-j : goal.invariant-loop-j
invariant-loop-j l = Filled (block_product l.rule l.n l.initial.scratch l.i) (laid_products_base + l.i * l.c) l.j l.initial.scratch l.scratch × (l.j ≤ l.c)

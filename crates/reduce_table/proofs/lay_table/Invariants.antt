-- `reduce_table::lay_table` meets its contract: the rows that were passed are laid out. Assumes nothing.
use Prim.Native.Nat.{◌≤◌}
use Rattle.scratch.specs.Map.{laid_products_base}
use Rattle.reduce_table.specs.Layout.{block_product, Grid}
use Rattle.reduce_table.proofs.lay_table.Given as goal

abbrev pub invariant-loop-i : goal.invariant-loop-i
invariant-loop-i l = Grid (block_product l.rule l.n l.initial.scratch) laid_products_base l.c l.c l.i l.initial.scratch l.scratch × (l.i ≤ l.c)

-- The loop holds that the rows so far have their numbers. Assumes nothing.
use Prim.Native.Nat.{◌≤◌}
use Rattle.scratch.specs.Rows.{RowsFilled}
use Rattle.scratch.specs.Map.{laid_products_base}
use Rattle.word_table.specs.Laying.{AlongWord}
use Rattle.word_table.proofs.lay_products.Given as goal

abbrev pub invariant-loop-i : goal.invariant-loop-i
invariant-loop-i l = RowsFilled (AlongWord l.count l.initial.scratch) laid_products_base l.count l.count l.i l.initial.scratch l.scratch × (l.i ≤ l.count)

-- The loop holds that the products so far have their numbers. Assumes nothing.
use Prim.Native.Nat.{◌+◌, ◌*◌, ◌≤◌}
use Rattle.scratch.specs.Rows.{RowFilled}
use Rattle.scratch.specs.Map.{laid_products_base}
use Rattle.word_table.specs.Laying.{AlongWord}
use Rattle.word_table.proofs.lay_products_of.Given as goal

abbrev pub invariant-loop-j : goal.invariant-loop-j
invariant-loop-j l = RowFilled (AlongWord l.count l.initial.scratch l.i) (laid_products_base + l.i * l.count) l.j l.initial.scratch l.scratch × (l.j ≤ l.count)

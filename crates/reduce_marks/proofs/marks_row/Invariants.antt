-- `reduce_marks::marks_row` meets its contract: the pairs (i, j) that were passed have their bytes. Assumes nothing.
use Prim.Native.Nat.{◌+◌, ◌*◌, ◌≤◌}
use Rattle.scratch.specs.Map.{laid_marks_base}
use Rattle.reduce_table.specs.Layout.{block_mark, Filled}
use Rattle.reduce_marks.proofs.marks_row.Given as goal

abbrev pub invariant-loop-j : goal.invariant-loop-j
invariant-loop-j l = Filled (block_mark l.c l.initial.scratch l.i) (laid_marks_base + l.i * 64) l.j l.initial.scratch l.scratch × (l.j ≤ l.c)

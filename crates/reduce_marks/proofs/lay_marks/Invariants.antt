-- `reduce_marks::lay_marks` meets its contract: the rows that were passed are laid out. Assumes nothing.
use Prim.Native.Nat.{◌≤◌}
use Rattle.scratch.specs.Map.{laid_marks_base}
use Rattle.reduce_table.specs.Layout.{block_mark, Grid}
use Rattle.reduce_marks.proofs.lay_marks.Given as goal

abbrev pub invariant-loop-i : goal.invariant-loop-i
invariant-loop-i l = Grid (block_mark l.c l.initial.scratch) laid_marks_base 64 l.c l.i l.initial.scratch l.scratch × (l.i ≤ l.c)

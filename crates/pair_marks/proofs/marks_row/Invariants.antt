-- `pair_marks::marks_row` meets its contract: the pairs (i, j) that were passed have their marks. Assumes nothing.
use Prim.Native.Nat.{◌+◌, ◌*◌, ◌≤◌}
use Rattle.scratch.specs.Map.{laid_marks_base}
use Rattle.scratch.specs.Rows.{RowFilled}
use Rattle.pair_marks.specs.Marks.{PairMark}
use Rattle.pair_marks.proofs.marks_row.Given as goal

abbrev pub invariant-loop-j : goal.invariant-loop-j
invariant-loop-j l = RowFilled (PairMark l.operation l.count l.initial.scratch l.i) (laid_marks_base + l.i * 64) l.j l.initial.scratch l.scratch × (l.j ≤ l.count)

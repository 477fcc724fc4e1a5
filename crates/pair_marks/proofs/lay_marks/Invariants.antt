-- `pair_marks::lay_marks` meets its contract: the rows that were passed are laid out. Assumes nothing.
use Prim.Native.Nat.{◌≤◌}
use Rattle.scratch.specs.Map.{laid_marks_base}
use Rattle.scratch.specs.Rows.{RowsFilled}
use Rattle.pair_marks.specs.Marks.{PairMark}
use Rattle.pair_marks.proofs.lay_marks.Given as goal

abbrev pub invariant-loop-i : goal.invariant-loop-i
invariant-loop-i l = RowsFilled (PairMark l.operation l.count l.initial.scratch) laid_marks_base 64 l.count l.i l.initial.scratch l.scratch × (l.i ≤ l.count)

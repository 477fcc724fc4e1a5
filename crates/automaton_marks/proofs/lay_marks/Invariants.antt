-- `automaton_marks::lay_marks` meets its contract: the loop holds that the rows so far have their bytes. Assumes nothing.
use Prim.Native.Nat.{◌≤◌}
use Rattle.automaton_table.specs.Laying.{MarkByte}
use Rattle.scratch.specs.Rows.{RowsFilled}
use Rattle.scratch.specs.Map.{laid_marks_base}
use Rattle.automaton_marks.proofs.lay_marks.Given as goal

abbrev pub invariant-loop-s : goal.invariant-loop-s
invariant-loop-s l = RowsFilled (MarkByte l.kinds l.n l.count l.initial.scratch) laid_marks_base 64 l.count l.s l.initial.scratch l.scratch × (l.s ≤ l.count)

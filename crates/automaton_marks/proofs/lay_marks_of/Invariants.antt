-- `automaton_marks::lay_marks_of` meets its contract: the loop holds that the pairs so far have their bytes. Assumes nothing.
use Prim.Native.Nat.{◌+◌, ◌*◌, ◌≤◌}
use Rattle.automaton_table.specs.Laying.{MarkByte}
use Rattle.scratch.specs.Rows.{RowFilled}
use Rattle.scratch.specs.Map.{laid_marks_base}
use Rattle.automaton_marks.proofs.lay_marks_of.Given as goal

abbrev pub invariant-loop-e : goal.invariant-loop-e
invariant-loop-e l = RowFilled (MarkByte l.kinds l.n l.count l.initial.scratch l.s) (laid_marks_base + l.s * 64) l.e l.initial.scratch l.scratch × (l.e ≤ l.count)

-- The loop holds that the pairs (s, e) that were passed have their marks. Assumes nothing.
use Prim.Native.Nat.{◌+◌, ◌*◌, ◌≤◌}
use Rattle.scratch.specs.Map.{laid_marks_base}
use Rattle.scratch.specs.Rows.{RowFilled}
use Rattle.word_rule.specs.Writing.{LinkedGrade}
use Rattle.word_rule.proofs.clear_row.Given as goal

abbrev pub invariant-loop-e : goal.invariant-loop-e
invariant-loop-e l = RowFilled (LinkedGrade l.count l.initial.scratch l.s) (laid_marks_base + l.s * 64) l.e l.initial.scratch l.scratch × (l.e ≤ l.count)

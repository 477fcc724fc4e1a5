-- The loop holds that the rows that were passed have their marks. Assumes nothing.
use Prim.Native.Nat.{◌≤◌}
use Rattle.scratch.specs.Map.{laid_marks_base}
use Rattle.scratch.specs.Rows.{RowsFilled}
use Rattle.word_rule.specs.Writing.{LinkedGrade}
use Rattle.word_rule.proofs.clear_unlinked.Given as goal

abbrev pub invariant-loop-s : goal.invariant-loop-s
invariant-loop-s l = RowsFilled (LinkedGrade l.count l.initial.scratch) laid_marks_base 64 l.count l.s l.initial.scratch l.scratch × (l.s ≤ l.count)

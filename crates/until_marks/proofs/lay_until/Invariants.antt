-- The loop holds that the rows that were passed have their grades. Assumes nothing.
use Prim.Native.Nat.{◌≤◌}
use mathlib.Core.Path.{◌≡◌}
use Rattle.scratch.specs.Map.{laid_marks_base}
use Rattle.scratch.specs.Rows.{RowsFilled}
use Rattle.until_marks.specs.Marks.{until_grade}
use Rattle.until_marks.proofs.lay_until.Given as goal

abbrev pub invariant-loop-s : goal.invariant-loop-s
invariant-loop-s l = RowsFilled (λ s e byte. byte ≡ until_grade l.initial.scratch l.classes s e) laid_marks_base 64 l.count l.s l.initial.scratch l.scratch × (l.s ≤ l.count)

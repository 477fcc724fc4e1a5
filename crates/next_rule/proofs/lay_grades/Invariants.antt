-- The loop holds that the rows that were passed have their grades. Assumes nothing.
use Prim.Native.Nat.{◌≤◌}
use mathlib.Core.Path.{◌≡◌}
use Rattle.scratch.specs.Map.{laid_marks_base}
use Rattle.scratch.specs.Rows.{RowsFilled}
use Rattle.next_rule.specs.Writing.{next_grade}
use Rattle.next_rule.proofs.lay_grades.Given as goal

abbrev pub invariant-loop-s : goal.invariant-loop-s
invariant-loop-s l = RowsFilled (λ s e byte. byte ≡ next_grade l.initial.scratch s e) laid_marks_base 64 l.count l.s l.initial.scratch l.scratch × (l.s ≤ l.count)

-- The loop holds that the pairs (s, e) that were passed have their grades. Assumes nothing.
use Prim.Native.Nat.{◌+◌, ◌*◌, ◌≤◌}
use mathlib.Core.Path.{◌≡◌}
use Rattle.scratch.specs.Map.{laid_marks_base}
use Rattle.scratch.specs.Rows.{RowFilled}
use Rattle.next_rule.specs.Writing.{next_grade}
use Rattle.next_rule.proofs.grade_row.Given as goal

abbrev pub invariant-loop-e : goal.invariant-loop-e
invariant-loop-e l = RowFilled (λ e byte. byte ≡ next_grade l.initial.scratch l.s e) (laid_marks_base + l.s * 64) l.e l.initial.scratch l.scratch × (l.e ≤ l.count)

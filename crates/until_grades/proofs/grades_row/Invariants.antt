-- The loop holds that the contexts (t, z) that were passed have their bytes. Assumes nothing.
use Prim.Native.Nat.{◌+◌, ◌*◌, ◌≤◌}
use mathlib.Core.Path.{◌≡◌}
use Rattle.scratch.specs.Map.{until_grades_base}
use Rattle.scratch.specs.Rows.{RowFilled}
use Rattle.until_grades.specs.Grades.{both_grades}
use Rattle.until_grades.proofs.grades_row.Given as goal

abbrev pub invariant-loop-z : goal.invariant-loop-z
invariant-loop-z l = RowFilled (λ z byte. byte ≡ both_grades l.first l.n1 l.second l.n2 l.k l.initial.scratch l.t z) (until_grades_base + l.t * 64) l.z l.initial.scratch l.scratch × (l.z ≤ l.count)

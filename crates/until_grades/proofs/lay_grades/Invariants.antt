-- The loop holds that the rows that were passed have their bytes. Assumes nothing.
use Prim.Native.Nat.{◌≤◌}
use mathlib.Core.Path.{◌≡◌}
use Rattle.scratch.specs.Map.{until_grades_base}
use Rattle.scratch.specs.Rows.{RowsFilled}
use Rattle.until_grades.specs.Grades.{both_grades}
use Rattle.until_grades.proofs.lay_grades.Given as goal

abbrev pub invariant-loop-t : goal.invariant-loop-t
invariant-loop-t l = RowsFilled (λ t z byte. byte ≡ both_grades l.first l.n1 l.second l.n2 l.k l.initial.scratch t z) until_grades_base 64 l.count l.t l.initial.scratch l.scratch × (l.t ≤ l.count)

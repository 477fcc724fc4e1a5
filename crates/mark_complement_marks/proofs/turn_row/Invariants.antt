-- `mark_complement_marks::turn_row` meets its contract: the pairs (s, e) that were passed have their bytes. Assumes nothing.
use Prim.Native.Nat.{◌≤◌}
use Rattle.formats.specs.Table.{morphism_at}
use Rattle.mark_complement_marks.specs.Complement.{ComplementRow}
use Rattle.mark_complement_marks.proofs.turn_row.Given as goal

abbrev pub invariant-loop-e : goal.invariant-loop-e
invariant-loop-e l = ComplementRow (morphism_at l.rule l.n l.k) l.s l.e l.initial.scratch l.scratch × (l.e ≤ l.n)

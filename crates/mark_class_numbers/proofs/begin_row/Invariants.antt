-- `mark_class_numbers::begin_row` meets its contract: the pairs of the row that were passed have their first numbers. Assumes nothing.
use Prim.Native.Nat.{◌+◌, ◌*◌, ◌≤◌}
use Rattle.formats.specs.Table.{morphism_at}
use Rattle.mark_class_numbers.specs.Cells.{Begun}
use Rattle.mark_class_numbers.proofs.begin_row.Given as goal

abbrev pub invariant-loop-e : goal.invariant-loop-e
invariant-loop-e l = Begun (morphism_at l.rule l.n l.k) (l.s * l.n) (l.s * l.n + l.e) l.initial.out l.out × (l.e ≤ l.n)

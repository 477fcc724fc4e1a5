-- `mark_class_numbers::begin` meets its contract: the rows that were passed have their first numbers. Assumes nothing.
use Prim.Native.Nat.{◌*◌, ◌≤◌}
use Rattle.formats.specs.Table.{morphism_at}
use Rattle.mark_class_numbers.specs.Cells.{Begun}
use Rattle.mark_class_numbers.proofs.begin.Given as goal

abbrev pub invariant-loop-s : goal.invariant-loop-s
invariant-loop-s l = Begun (morphism_at l.rule l.n l.k) 0 (l.s * l.n) l.initial.out l.out × (l.s ≤ l.n)

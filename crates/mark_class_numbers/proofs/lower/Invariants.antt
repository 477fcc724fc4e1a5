-- `mark_class_numbers::lower` meets its contract: the numbers of the elements that were passed are lowered. Assumes nothing.
use Prim.Native.Nat.{◌≤◌}
use Rattle.formats.specs.Table.{morphism_at}
use Rattle.mark_class_numbers.specs.Cells.{Lowered}
use Rattle.mark_class_numbers.proofs.lower.Given as goal

abbrev pub invariant-loop-s : goal.invariant-loop-s
invariant-loop-s l = Lowered (morphism_at l.rule l.n l.k) l.x l.e l.f l.s l.initial.out l.out × (l.s ≤ l.n)

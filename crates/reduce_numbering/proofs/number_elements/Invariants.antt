-- `reduce_numbering::number_elements` meets its contract: the elements of the entries that were passed have their numbers. Assumes nothing.
use Prim.Native.Nat.{◌≤◌}
use Rattle.reduce_numbering.specs.Steps.{Numbered}
use Rattle.reduce_numbering.proofs.number_elements.Given as goal

abbrev pub invariant-loop-s : goal.invariant-loop-s
invariant-loop-s l = Numbered l.queue l.n l.s-index l.c l.initial.scratch l.scratch × (l.s-index ≤ l.count)

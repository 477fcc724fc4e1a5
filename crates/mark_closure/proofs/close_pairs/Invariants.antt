-- `mark_closure::close_pairs` meets its contract: the factors x that were passed were tried with every y. Assumes nothing.
use Prim.Native.Nat.{◌*◌, ◌≤◌}
use Rattle.formats.specs.Table.{morphism_at}
use Rattle.mark_closure.specs.Closing.{ClosureAdvanced}
use Rattle.mark_closure.proofs.close_pairs.Given as goal

abbrev pub invariant-loop-x : goal.invariant-loop-x
invariant-loop-x l = ClosureAdvanced (morphism_at l.rule l.n l.k) (l.x * l.n) l.initial.scratch l.scratch × (l.x ≤ l.n)

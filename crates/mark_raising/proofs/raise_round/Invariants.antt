-- `mark_raising::raise_round` meets its contract: marks are raised from the elements that were passed. Assumes nothing.
use Prim.Native.Nat.{◌≤◌}
use mathlib.Core.Bool.{false}
use Rattle.formats.specs.Table.{morphism_at}
use Rattle.finite.specs.Each.{EachBelow}
use Rattle.mark_raising.specs.Raising.{RaiseAnswer, CycleSettled}
use Rattle.mark_raising.proofs.raise_round.Given as goal

abbrev pub invariant-loop-e : goal.invariant-loop-e
invariant-loop-e l =
    RaiseAnswer (morphism_at l.rule l.n l.k) (λ bytes. EachBelow (CycleSettled (morphism_at l.rule l.n l.k) bytes) l.e) false l.initial.scratch l.scratch l.more × (l.e ≤ l.n)

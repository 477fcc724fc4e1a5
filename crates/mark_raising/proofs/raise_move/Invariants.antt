-- `mark_raising::raise_move` meets its contract: the marks at the starts that were passed are raised. Assumes nothing.
use Prim.Native.Nat.{◌≤◌}
use Rattle.formats.specs.Table.{morphism_at}
use Rattle.finite.specs.Each.{EachBelow}
use Rattle.mark_raising.specs.Raising.{RaiseAnswer, StartSettled}
use Rattle.mark_raising.proofs.raise_move.Given as goal

abbrev pub invariant-loop-s : goal.invariant-loop-s
invariant-loop-s l =
    RaiseAnswer (morphism_at l.rule l.n l.k) (λ bytes. EachBelow (StartSettled (morphism_at l.rule l.n l.k) l.e l.g l.f bytes) l.s) l.raised l.initial.scratch l.scratch l.more × (l.s ≤ l.n)

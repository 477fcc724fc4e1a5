-- `mark_raising::raise_letters` meets its contract: marks are raised along the moves of the letters that were passed. Assumes nothing.
use Prim.Native.Nat.{◌≤◌}
use Rattle.formats.specs.Table.{morphism_at, image_at}
use Rattle.finite.specs.Each.{EachBelow}
use Rattle.mark_raising.specs.Raising.{RaiseAnswer, LetterSettled}
use Rattle.mark_raising.proofs.raise_letters.Given as goal

abbrev pub invariant-loop-a : goal.invariant-loop-a
invariant-loop-a l =
    RaiseAnswer (morphism_at l.rule l.n l.k) (λ bytes. EachBelow (λ i. LetterSettled (morphism_at l.rule l.n l.k) l.e (image_at l.rule l.n i) bytes) l.a) l.raised l.initial.scratch l.scratch l.more × (l.a ≤ l.k)

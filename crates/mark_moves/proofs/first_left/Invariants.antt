-- `mark_moves::first_left` meets its contract: none of the elements that were passed is an idempotent of the left class. Assumes nothing.
use Rattle.formats.specs.Table.{morphism_at}
use Rattle.finite.specs.Each.{EachBelow}
use Rattle.conjugacy_moves.specs.Moves.{LeftEquivalent}
use Rattle.mark_moves.proofs.first_left.Given as goal

abbrev pub invariant-loop-f : goal.invariant-loop-f
invariant-loop-f l = EachBelow (λ i. LeftEquivalent (morphism_at l.rule l.n l.k) i l.e → ⊥) l.f

-- `mark_moves::first_way` meets its contract: no element that was passed leads from y to e. Assumes nothing.
use mathlib.Core.Path.{◌≡◌}
use Rattle.formats.specs.Table.{product_at}
use Rattle.finite.specs.Each.{EachBelow}
use Rattle.mark_moves.proofs.first_way.Given as goal

abbrev pub invariant-loop-z : goal.invariant-loop-z
invariant-loop-z l = EachBelow (λ x. product_at l.rule l.n l.y x ≡ l.e → ⊥) l.z

-- `confirm_map::taken_to` meets its contract: no element that was passed goes to t. Assumes nothing.
use mathlib.Core.Path.{◌≡◌}
use lib.ListN.{get_or}
use Rattle.finite.specs.Each.{EachBelow}
use Rattle.confirm_map.proofs.taken_to.Given as goal

abbrev pub invariant-loop-s : goal.invariant-loop-s
invariant-loop-s l = EachBelow (λ i. get_or l.map i 0 ≡ l.t → ⊥) l.s

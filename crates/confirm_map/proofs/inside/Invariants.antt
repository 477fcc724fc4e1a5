-- `confirm_map::inside` meets its contract: the bytes that were passed are elements of the second table. Assumes nothing.
use Prim.Native.Nat.{◌<◌}
use lib.ListN.{get_or}
use Rattle.finite.specs.Each.{EachBelow}
use Rattle.confirm_map.proofs.inside.Given as goal

abbrev pub invariant-loop-s : goal.invariant-loop-s
invariant-loop-s l = EachBelow (λ i. get_or l.map i 0 < l.n2) l.s

-- `confirm_reduction::each_alone` meets its contract: the elements that were passed are alone. Assumes nothing.
use Prim.Native.Nat.{◌+◌}
use mathlib.Core.Path.{◌≡◌}
use lib.ListN.{get_or}
use Rattle.finite.specs.Each.{EachBelow}
use Rattle.scratch.specs.Map.{blocks_base}
use Rattle.confirm_reduction.proofs.each_alone.Given as goal

abbrev pub invariant-loop-s : goal.invariant-loop-s
invariant-loop-s l = EachBelow (λ i. get_or l.scratch (blocks_base + i) 0 ≡ i) l.s

-- The loop holds that the entries before the one at hand were tried with every letter. There are at most 64 besides the first, so 65 less
-- the entry is a measure. Assumes nothing.
use Prim.Native.Nat.{◌-◌}
use Rattle.pair_list.proofs.Laws.{Listing}
use Rattle.pair_list.proofs.list_pairs.Given as goal

abbrev pub invariant-loop-from : goal.invariant-loop-from
invariant-loop-from l = Listing l.first l.n1 l.second l.n2 l.k l.initial.scratch l.scratch l.count l.from

abbrev pub decreases-loop-from : goal.decreases-loop-from
decreases-loop-from l = 65 - l.from

-- The loop holds that the entries before the one at hand were followed. There are at most 64 besides the first, so 65 less the entry is a measure. Assumes
-- nothing.
use Prim.Native.Nat.{◌-◌}
use Rattle.until_list.proofs.Letters.{Entries}
use Rattle.until_list.proofs.list_until.Given as goal

abbrev pub invariant-loop-from : goal.invariant-loop-from
invariant-loop-from l = Entries l.np l.k l.initial.scratch l.scratch l.initial.classes l.classes l.count l.from

abbrev pub decreases-loop-from : goal.decreases-loop-from
decreases-loop-from l = 65 - l.from

-- The loop holds that the entries before the one at hand were followed. There are at most 64 besides the first, so 65 less the entry is a measure. Assumes
-- nothing.
use Prim.Native.Nat.{◌-◌}
use Rattle.formats.specs.Table.{morphism_at}
use Rattle.next_list.proofs.Loops.{Entries}
use Rattle.next_list.proofs.list_next.Given as goal

abbrev pub invariant-loop-from : goal.invariant-loop-from
invariant-loop-from l = Entries (morphism_at l.rule l.n l.k) l.initial.scratch l.scratch l.count l.from

abbrev pub decreases-loop-from : goal.decreases-loop-from
decreases-loop-from l = 65 - l.from

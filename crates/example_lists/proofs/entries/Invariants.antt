-- `example_lists::entries` meets its contract: each turn stores one entry more, and the loop ends at the count. Assumes nothing.
use Rattle.example_lists.proofs.Listing.{EntriesSoFar}
use Rattle.example_lists.proofs.entries.Given as goal

abbrev pub invariant-loop-i : goal.invariant-loop-i
invariant-loop-i l = EntriesSoFar l.name l.byte l.count l.initial.out l.at l.out l.end l.i

-- `example_lists::entries` meets its contract: each turn stores one entry more, and the loop ends at the count. Assumes nothing.
use Rattle.example_lists.proofs.Storing.{stored_inside, stored_length}
use Rattle.example_lists.proofs.Listing.{entries_none, entries_more, entries_all}
use Rattle.example_lists.proofs.entries.Goals as goal

pub loop-i-init : goal.loop-i-init
loop-i-init c = entries_none c.requires

pub entry-end-requires : goal.entry-end-requires
entry-end-requires c = stored_inside c.loop-i.invariant.stored

pub loop-i-preserved : goal.loop-i-preserved
loop-i-preserved c =
    entries_more c.loop-i.invariant c.loop-i-test.true c.entry-end.ensures

pub shape_of-out : goal.shape_of-out
shape_of-out c = stored_length c.loop-i.invariant.stored

pub returns : goal.returns
returns c = entries_all c.loop-i.invariant c.loop-i-test.false

-- What the entry makes of the grades is worked out, and its letters are followed. Assumes nothing.
use Rattle.until_list.proofs.Letters.{entry_place, entry_ready, entry_grown}
use Rattle.until_list.proofs.follow_entry.Goals as goal

pub step_rows-requires : goal.step_rows-requires
step_rows-requires c = entry_place c.requires

pub follow_letters-requires : goal.follow_letters-requires
follow_letters-requires c =
    entry_ready c.requires c.step_rows.ensures

pub returns : goal.returns
returns c =
    entry_grown c.step_rows.ensures c.follow_letters.ensures

-- The class is there, there is no place for it, or it is added. Assumes nothing.
use Rattle.next_list.proofs.Adding.{known_place, add_known, add_full, new_place, add_new}
use Rattle.next_list.proofs.add_pair.Goals as goal

pub find_pair-requires : goal.find_pair-requires
find_pair-requires c = (c.requires.few, c.requires.room)

pub record_step-requires : goal.record_step-requires
record_step-requires c = known_place c.requires c.in-Some.ensures

pub returns-in-Some : goal.returns-in-Some
returns-in-Some c =
    add_known c.requires c.in-Some.ensures c.record_step.ensures

pub returns-then-count-ge64 : goal.returns-then-count-ge64
returns-then-count-ge64 c = add_full c.requires c.in_default.ensures c.if-count-ge64.true

pub record_step-requires-2 : goal.record_step-requires-2
record_step-requires-2 c =
    new_place c.requires c.in_default.ensures c.if-count-ge64.false

pub returns : goal.returns
returns c =
    add_new c.requires c.in_default.ensures c.if-count-ge64.false c.record_step-2.ensures

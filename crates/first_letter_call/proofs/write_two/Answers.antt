-- Letter 0 is in the set or not. Assumes nothing.
use Rattle.first_letter_call.proofs.Files.{two_place, two_first, two_second}
use Rattle.first_letter_call.proofs.write_two.Goals as goal

pub write_sections-requires : goal.write_sections-requires
write_sections-requires c =
    let p = c.requires in two_place p.1 p.4 c.elements_in-elements.ensures

pub returns-then-in_set : goal.returns-then-in_set
returns-then-in_set c =
    let p = c.requires in two_first p.1 p.2 p.3 c.elements_in-elements.ensures c.in_set.ensures c.if-in_set.true c.write_sections.ensures

pub write_sections-requires-2 : goal.write_sections-requires-2
write_sections-requires-2 c =
    let p = c.requires in two_place p.1 p.4 c.elements_in-elements.ensures

pub returns : goal.returns
returns c =
    let p = c.requires in two_second p.1 p.2 p.3 c.elements_in-elements.ensures c.in_set.ensures c.if-in_set.false c.write_sections-2.ensures

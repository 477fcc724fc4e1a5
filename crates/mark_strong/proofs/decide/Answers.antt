-- The closure first, in a table made blank for it; a search only where the marks do not have all of it. Assumes nothing.
use native.Mathlib.Omega.{arith}
use Rattle.mark_strong.proofs.Deciding.{closure_room, decided_closed, search_place, decided_searched}
use Rattle.mark_strong.proofs.decide.Goals as goal

pub zero_part-requires : goal.zero_part-requires
zero_part-requires c = (omega arith, omega (arith, c.requires.decide_needs.room))

pub close-closed-requires : goal.close-closed-requires
close-closed-requires c = record {
  table = c.requires.table;
  lawful = c.requires.decide_needs.lawful;
  closure_room = closure_room c.requires.table.small c.requires.decide_needs c.zero_part.ensures;
}

pub shape_of-scratch-then-closed : goal.shape_of-scratch-then-closed
shape_of-scratch-then-closed c = ((decided_closed c.requires.table.small c.requires.decide_needs c.zero_part.ensures c.close-closed.ensures c.if-closed.true)).same_length

pub returns-then-closed : goal.returns-then-closed
returns-then-closed c =
    decided_closed c.requires.table.small c.requires.decide_needs c.zero_part.ensures c.close-closed.ensures c.if-closed.true

pub highest_escape-requires : goal.highest_escape-requires
highest_escape-requires c = record {
  table = c.requires.table;
  escape_needs = search_place c.requires.table.small c.requires.decide_needs c.zero_part.ensures c.close-closed.ensures;
}

pub shape_of-scratch : goal.shape_of-scratch
shape_of-scratch c = (decided_searched c.requires.table.small c.requires.decide_needs c.zero_part.ensures c.close-closed.ensures c.highest_escape.ensures c.is_none.ensures).same_length

pub returns : goal.returns
returns c =
    decided_searched c.requires.table.small c.requires.decide_needs c.zero_part.ensures c.close-closed.ensures c.highest_escape.ensures c.is_none.ensures

-- The states and the lists are made blank, the lists of preimages are made, and then every start value is searched. Assumes nothing.
use native.Mathlib.Omega.{arith}
use Rattle.mark_search.proofs.Escaping.{preimages_room, all_place, escaped_listed}
use Rattle.mark_search.proofs.first_escape.Goals as goal

pub zero_part-requires : goal.zero_part-requires
zero_part-requires c = (omega arith, omega (arith, c.requires.escape_needs.room))

pub list_preimages-requires : goal.list_preimages-requires
list_preimages-requires c = record {
  table = c.requires.table;
  preimages_room = preimages_room c.requires.table.small c.requires.escape_needs c.zero_part.ensures;
}

pub search_all-requires : goal.search_all-requires
search_all-requires c = record {
  table = c.requires.table;
  all_needs = all_place c.requires.table.small c.requires.escape_needs c.zero_part.ensures c.list_preimages.ensures;
}

pub shape_of-scratch : goal.shape_of-scratch
shape_of-scratch c = ((escaped_listed c.requires.table.small c.requires.escape_needs c.zero_part.ensures c.list_preimages.ensures c.search_all.ensures)).same_length

pub returns : goal.returns
returns c =
    escaped_listed c.requires.table.small c.requires.escape_needs c.zero_part.ensures c.list_preimages.ensures c.search_all.ensures

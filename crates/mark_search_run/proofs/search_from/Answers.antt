-- The states that the search begins with, and then the entries one after the other. Assumes nothing.
use Rattle.mark_search_run.proofs.Searching.{begin_place, place_begun, searching_start, searched_begun}
use Rattle.mark_search_run.proofs.search_from.Goals as goal

pub begin-begun-requires : goal.begin-begun-requires
begin-begun-requires c = begin_place c.requires.search_needs c.requires.table.small

pub run-requires : goal.run-requires
run-requires c = record {
  table = c.requires.table;
  run_needs = place_begun _ c.requires.search_needs c.begin-begun.ensures;
  searching = searching_start _ c.requires.search_needs c.begin-begun.ensures;
}

pub shape_of-scratch : goal.shape_of-scratch
shape_of-scratch c = (searched_begun _ c.requires.search_needs c.begin-begun.ensures c.run.ensures).kept.same_length

pub returns : goal.returns
returns c = searched_begun _ c.requires.search_needs c.begin-begun.ensures c.run.ensures

use Rattle.mark_search.proofs.Escaping.{searched_start, next_place, escaped_at, searched_next, escaped_none}
use Rattle.mark_search.proofs.search_all.Goals as goal

pub loop-s-init : goal.loop-s-init
loop-s-init c = searched_start _ c.requires.table.small c.requires.all_needs

pub search_from-requires : goal.search_from-requires
search_from-requires c = record {
  table = c.requires.table;
  search_needs = next_place _ c.requires.table.small c.requires.all_needs c.loop-s.invariant c.loop-s-test.true;
}

pub shape_of-scratch-in-Some : goal.shape_of-scratch-in-Some
shape_of-scratch-in-Some c = (escaped_at _ c.requires.table.small c.requires.all_needs c.loop-s.invariant c.loop-s-test.true c.search_from.ensures c.in-Some.is).same_length

pub returns-in-Some : goal.returns-in-Some
returns-in-Some c = escaped_at _ c.requires.table.small c.requires.all_needs c.loop-s.invariant c.loop-s-test.true c.search_from.ensures c.in-Some.is

pub loop-s-preserved : goal.loop-s-preserved
loop-s-preserved c = searched_next _ c.requires.table.small c.requires.all_needs c.loop-s.invariant c.search_from.ensures c.in_default.is

pub shape_of-scratch : goal.shape_of-scratch
shape_of-scratch c = c.loop-s.invariant.kept.same_length

pub returns : goal.returns
returns c = escaped_none _ c.requires.table.small c.requires.all_needs c.loop-s.invariant c.loop-s-test.false

-- The outcomes, the list, the grades, and the rule of the classes one after the other. Assumes nothing.
use Rattle.next_rule.proofs.Writing.{list_room, next_full, pairs_small, words_place, next_written}
use Rattle.next_rule.proofs.write_next.Goals as goal

pub outcomes-requires : goal.outcomes-requires
outcomes-requires c = record {
  table = c.requires.table;
  lawful = c.requires.next_needs.lawful;
  scratch_size_in_bounds = c.requires.next_needs.room;
}

pub list_next-requires : goal.list_next-requires
list_next-requires c = record {
  table = c.requires.table;
  lawful = c.requires.next_needs.lawful;
  scratch_size_in_bounds = list_room c.requires.table.small c.requires.next_needs c.outcomes.ensures;
}

pub returns-in_err-count : goal.returns-in_err-count
returns-in_err-count c = rw c.from_residual.ensures (next_full c.requires.table.small c.requires.next_needs c.outcomes.ensures c.list_next.ensures c.in_err-count.was)

pub lay_grades-requires : goal.lay_grades-requires
lay_grades-requires c = pairs_small c.requires.table.small c.requires.next_needs c.outcomes.ensures c.list_next.ensures c.in_ok-count.was

pub write_words-requires : goal.write_words-requires
write_words-requires c = words_place c.requires.table.small c.requires.next_needs c.outcomes.ensures c.list_next.ensures c.in_ok-count.was c.lay_grades.ensures

pub shape_of-scratch : goal.shape_of-scratch
shape_of-scratch c = (next_written c.requires.table.small c.requires.next_needs c.outcomes.ensures c.list_next.ensures c.in_ok-count.was c.lay_grades.ensures c.write_words.ensures).same_length

pub returns : goal.returns
returns c = next_written c.requires.table.small c.requires.next_needs c.outcomes.ensures c.list_next.ensures c.in_ok-count.was c.lay_grades.ensures c.write_words.ensures

-- `until_strong::until_of_strong` meets its contract: the list of pairs is complete, or too long, and of a complete list the rule of the classes is written, or
-- they are too many. Assumes nothing.
use Rattle.until_strong.proofs.Making.{two_tables, some_letters, list_empty, too_many, table_place, until_place, until_said}
use Rattle.until_strong.proofs.until_of_strong.Goals as goal

pub list_pairs-requires : goal.list_pairs-requires
list_pairs-requires c = record {
  two_tables = two_tables c.requires;
  empty = list_empty c.requires c.zero_part.ensures;
  le_k = some_letters c.requires;
}

pub shape_of-scratch-in-None : goal.shape_of-scratch-in-None
shape_of-scratch-in-None c = (too_many c.requires c.zero_part.ensures _ c.list_pairs.ensures c.in-None.is).same_length

pub returns-in-None : goal.returns-in-None
returns-in-None c = too_many c.requires c.zero_part.ensures _ c.list_pairs.ensures c.in-None.is

pub lay_table-requires : goal.lay_table-requires
lay_table-requires c = table_place c.requires c.zero_part.ensures _ c.list_pairs.ensures c.in-Some.is

pub write_until-file-requires : goal.write_until-file-requires
write_until-file-requires c = until_place c.requires c.zero_part.ensures _ c.list_pairs.ensures c.in-Some.is c.lay_table.ensures

pub shape_of-classes : goal.shape_of-classes
shape_of-classes c = c.write_until-file.ensures.classes_length

pub shape_of-scratch : goal.shape_of-scratch
shape_of-scratch c =
    (until_said c.requires c.zero_part.ensures _ c.list_pairs.ensures c.in-Some.is c.lay_table.ensures _ c.write_until-file.ensures c.formed.ensures).same_length

pub returns : goal.returns
returns c =
    until_said c.requires c.zero_part.ensures _ c.list_pairs.ensures c.in-Some.is c.lay_table.ensures _ c.write_until-file.ensures c.formed.ensures

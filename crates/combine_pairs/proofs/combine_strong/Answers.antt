-- `combine_pairs::combine_strong` meets its contract: the list of pairs is complete, or too long, and of a complete list the rule is written.
-- Assumes nothing.
use Rattle.combine_pairs.proofs.Combining.{two_tables, some_letters, list_empty, too_many, write_place, pairs_combined}
use Rattle.combine_pairs.proofs.combine_strong.Goals as goal

pub list_pairs-requires : goal.list_pairs-requires
list_pairs-requires c = record {
  two_tables = two_tables c.requires;
  empty = list_empty c.requires c.zero_part.ensures;
  le_k = some_letters c.requires;
}

pub returns-in-None : goal.returns-in-None
returns-in-None c =
    too_many c.requires c.zero_part.ensures _ c.list_pairs.ensures c.in-None.is

pub write_pairs-length-requires : goal.write_pairs-length-requires
write_pairs-length-requires c = record {
  two_tables = two_tables c.requires;
  pairs_rule_needs = write_place c.requires c.zero_part.ensures _ c.list_pairs.ensures c.in-Some.is;
}

pub returns : goal.returns
returns c =
    pairs_combined c.requires c.zero_part.ensures _ c.list_pairs.ensures c.in-Some.is c.write_pairs-length.ensures

-- The values behind the letter are worked out, and their class is added. Assumes nothing.
use Rattle.next_list.proofs.Following.{pair_place, followed_pair}
use Rattle.next_list.proofs.follow_letter.Goals as goal

pub pair_behind-pair-requires : goal.pair_behind-pair-requires
pair_behind-pair-requires c = record {
  table = c.requires.table;
  lawful = c.requires.lawful;
  listing = c.requires.listing;
  from_le_count = c.requires.from_le_count;
}

pub add_pair-requires : goal.add_pair-requires
add_pair-requires c = pair_place c.requires.lawful c.requires.listing c.requires.from_le_count.0 c.requires.from_le_count.1 c.pair_behind-pair.ensures

pub returns : goal.returns
returns c =
    followed_pair c.requires.lawful c.requires.listing c.requires.from_le_count.0 c.requires.from_le_count.1 c.pair_behind-pair.ensures _ c.add_pair.ensures

-- The class behind the letter is worked out and added. Assumes nothing.
use Rattle.until_list.proofs.Letters.{rows_place, behind_place, add_place, letter_followed}
use Rattle.until_list.proofs.follow_letter.Goals as goal

pub class_rows-requires : goal.class_rows-requires
class_rows-requires c = rows_place c.requires

pub pair_behind-pair-requires : goal.pair_behind-pair-requires
pair_behind-pair-requires c =
    behind_place c.requires c.class_rows.ensures

pub add_class-requires : goal.add_class-requires
add_class-requires c =
    add_place c.requires c.class_rows.ensures c.pair_behind-pair.ensures

pub returns : goal.returns
returns c =
    letter_followed c.class_rows.ensures c.pair_behind-pair.ensures _ c.add_class.ensures

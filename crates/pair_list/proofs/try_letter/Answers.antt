-- The two halves are found in the parts of scratch where they stand, and the pair of them is added. Assumes nothing.
use Rattle.pair_list.proofs.Laws.{left_place, right_place, add_place, tried_letter}
use Rattle.pair_list.proofs.try_letter.Goals as goal

pub step-s-requires : goal.step-s-requires
step-s-requires c = left_place c.requires.two_tables c.requires.trying c.requires.letter_lt_k

pub step-t-requires : goal.step-t-requires
step-t-requires c =
    right_place c.requires.two_tables c.requires.trying c.requires.letter_lt_k

pub add_pair-requires : goal.add_pair-requires
add_pair-requires c =
    add_place c.requires.two_tables c.requires.trying c.requires.letter_lt_k c.step-s.ensures c.step-t.ensures

pub returns : goal.returns
returns c =
    tried_letter c.requires.two_tables c.requires.trying c.requires.letter_lt_k c.step-s.ensures c.step-t.ensures _ c.add_pair.ensures

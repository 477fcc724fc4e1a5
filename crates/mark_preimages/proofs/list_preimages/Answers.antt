-- `mark_preimages::list_preimages` meets its contract: the letters that were passed have their lists. Assumes nothing.
use native.Mathlib.Omega.{arith}
use Rattle.mark_preimages.proofs.Listing.{letters_none, letters_room, letters_more, letters_all}
use Rattle.mark_preimages.proofs.list_preimages.Goals as goal

pub loop-a-init : goal.loop-a-init
loop-a-init c =
    (letters_none c.requires.table.letters_small c.requires.preimages_room, omega arith)

pub list_letter-requires : goal.list_letter-requires
list_letter-requires c = record {
  table = c.requires.table;
  a_lt_k = c.loop-a-test.true;
  letter_room = letters_room c.loop-a.invariant.0 c.requires.preimages_room.room c.loop-a-test.true;
}

pub loop-a-preserved : goal.loop-a-preserved
loop-a-preserved c =
    (letters_more c.loop-a.invariant.0 c.requires.table.small c.requires.table.letters_small c.loop-a-test.true c.list_letter.ensures, omega arith)

pub shape_of-scratch : goal.shape_of-scratch
shape_of-scratch c = c.loop-a.invariant.0.kept.same_length

pub returns : goal.returns
returns c = letters_all c.loop-a.invariant.0 c.loop-a-test.false

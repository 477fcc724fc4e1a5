-- The loop holds that the letters before the one at hand were followed. Assumes nothing.
use Rattle.until_list.proofs.Letters.{FollowingLetters}
use Rattle.until_list.proofs.follow_letters.Given as goal

abbrev pub invariant-loop-letter : goal.invariant-loop-letter
invariant-loop-letter l = FollowingLetters l.np l.k l.initial.scratch l.scratch l.initial.classes l.classes l.count l.from l.total l.letter

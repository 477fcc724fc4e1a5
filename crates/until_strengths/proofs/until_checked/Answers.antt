-- `until_strengths::until_checked` meets its contract: what the letter counts and the strengths come to decides. Assumes nothing.
use Rattle.until_strengths.proofs.Deciding.{not_compared, strong_place, strong_made}
use Rattle.until_strengths.proofs.until_checked.Goals as goal

pub compare_both-requires : goal.compare_both-requires
compare_both-requires c = record { entry = c.requires.entry; checked = c.requires.checked }

pub returns-in-Err : goal.returns-in-Err
returns-in-Err c = not_compared c.compare_both.ensures c.in-Err.is

pub until_of_strong-requires : goal.until_of_strong-requires
until_of_strong-requires c = strong_place c.compare_both.ensures c.requires c.in-Ok.is

pub shape_of-classes : goal.shape_of-classes
shape_of-classes c = c.until_of_strong.ensures.classes_length

pub returns-in-Ok : goal.returns-in-Ok
returns-in-Ok c = strong_made c.compare_both.ensures c.until_of_strong.ensures

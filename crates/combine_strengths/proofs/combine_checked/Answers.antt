-- `combine_strengths::combine_checked` meets its contract: what the letter counts and the strengths come to decides. Assumes nothing.
use Rattle.combine_strengths.proofs.Deciding.{not_compared, strong_place, strong_combined}
use Rattle.combine_strengths.proofs.combine_checked.Goals as goal

pub compare_both-requires : goal.compare_both-requires
compare_both-requires c = record { entry = c.requires.entry; checked = c.requires.checked }

pub returns-in-Err : goal.returns-in-Err
returns-in-Err c = not_compared c.compare_both.ensures c.in-Err.is

pub combine_strong-requires : goal.combine_strong-requires
combine_strong-requires c = strong_place c.compare_both.ensures c.requires c.in-Ok.is

pub returns-in-Ok : goal.returns-in-Ok
returns-in-Ok c = strong_combined c.compare_both.ensures c.combine_strong.ensures

-- Assumes nothing.
use mathlib.Core.Path.{refl}
use Rattle.temporal_promises.specs.FirstLetter.{in_set}
use Rattle.first_letter_call.proofs.in_set.Goals as goal

pub returns : goal.returns
unfolding in_set
returns c = refl

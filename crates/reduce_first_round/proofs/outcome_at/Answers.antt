-- `reduce_first_round::outcome_at` meets its contract. Assumes nothing.
use mathlib.Core.Path.{refl}
use Rattle.reduce_first_round.specs.Map.{outcome_at}
use Rattle.reduce_first_round.proofs.outcome_at.Goals as goal

pub returns : goal.returns
unfolding outcome_at
returns c = refl

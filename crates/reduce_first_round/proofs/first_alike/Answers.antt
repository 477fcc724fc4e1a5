-- `reduce_first_round::first_alike` meets its contract: no element below the found one has the outcomes of s. Assumes nothing.
use mathlib.Core.Path.{refl}
use Rattle.std.proofs.Common.{rules}
use Rattle.reduce_first_round.proofs.BlockBytes.{least_found}
use Rattle.reduce_first_round.proofs.Comparing.{same_refl}
use Rattle.reduce_first_round.proofs.first_alike.Goals as goal

pub returns : goal.returns
returns c = least_found _ _ _ refl c.find.ensures.ran (λ x b q k. search rules) (same_refl _ _ _) c.unwrap_or.ensures

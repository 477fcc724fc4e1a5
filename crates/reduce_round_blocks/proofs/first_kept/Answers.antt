-- `reduce_round_blocks::first_kept` meets its contract: no element below the found one is kept together with s. Assumes nothing.
use mathlib.Core.Path.{refl}
use Rattle.std.proofs.Common.{rules}
use Rattle.reduce_first_round.proofs.BlockBytes.{least_found}
use Rattle.reduce_first_round.proofs.Products.{still_refl}
use Rattle.reduce_round_blocks.proofs.first_kept.Goals as goal

pub returns : goal.returns
returns c = least_found _ _ _ refl c.find.ensures.ran (λ x b q k. search rules) (still_refl _ _ _) c.unwrap_or.ensures

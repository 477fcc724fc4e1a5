-- `confirm_map::products` meets its contract: `all` over the elements tells whether the products that begin with each are carried over. Assumes nothing.
use mathlib.Core.Path.{refl}
use Rattle.std.proofs.Common.{rules}
use Rattle.confirm_map.proofs.Passing.{all_told}
use Rattle.confirm_map.proofs.products.Goals as goal

pub returns : goal.returns
returns c = all_told _ _ _ refl c.all.ensures.ran (λ x b q k. search rules)

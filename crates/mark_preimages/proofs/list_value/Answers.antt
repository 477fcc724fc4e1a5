-- `mark_preimages::list_value` meets its contract: the first of the list becomes the next of the value, and the value the first.
-- Assumes nothing.
use native.Mathlib.Omega.{arith}
use lib.ListN.{length-set}
use Rattle.mark_preimages.proofs.Listing.{value_listed}
use Rattle.mark_preimages.proofs.list_value.Goals as goal

pub bounds-scratch-a-3 : goal.bounds-scratch-a-3
bounds-scratch-a-3 c = simp length-set (omega arith)

pub returns : goal.returns
returns c = value_listed c.requires

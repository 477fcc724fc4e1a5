-- `theorems::smallest_theorem` meets its contract. Assumes nothing.
use Rattle.promises.proofs.SmallestTheorem.{smallest_theorem}
use Rattle.theorems.proofs.smallest_theorem.Goals as goal

pub returns : goal.returns
returns c = smallest_theorem

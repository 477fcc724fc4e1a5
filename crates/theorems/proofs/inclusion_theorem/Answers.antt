-- `theorems::inclusion_theorem` meets its contract. Assumes nothing.
use Rattle.promises.proofs.IncludedBytes.{inclusion_theorem}
use Rattle.theorems.proofs.inclusion_theorem.Goals as goal

pub returns : goal.returns
returns c = inclusion_theorem

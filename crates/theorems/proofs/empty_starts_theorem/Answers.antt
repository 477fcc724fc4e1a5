-- `theorems::empty_starts_theorem` meets its contract. Assumes nothing.
use Rattle.theory.proofs.EmptyStarts.{empty_starts_theorem}
use Rattle.theorems.proofs.empty_starts_theorem.Goals as goal

pub returns : goal.returns
returns c = empty_starts_theorem

-- `theorems::rounds_theorem` meets its contract. Assumes nothing.
use Rattle.promises.proofs.RoundsTheorem.{rounds_theorem}
use Rattle.theorems.proofs.rounds_theorem.Goals as goal

pub returns : goal.returns
returns c = rounds_theorem

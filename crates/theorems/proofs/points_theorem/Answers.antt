-- `theorems::points_theorem` meets its contract. Assumes nothing.
use Rattle.promises.proofs.PointsTheorem.{points_theorem}
use Rattle.theorems.proofs.points_theorem.Goals as goal

pub returns : goal.returns
returns c = points_theorem

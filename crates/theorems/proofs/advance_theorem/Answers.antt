-- `theorems::advance_theorem` meets its contract. Assumes nothing.
use Rattle.promises.proofs.AdvanceTheorem.{advance_theorem}
use Rattle.theorems.proofs.advance_theorem.Goals as goal

pub returns : goal.returns
returns c = advance_theorem

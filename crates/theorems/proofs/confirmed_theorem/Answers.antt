-- `theorems::confirmed_theorem` meets its contract. Assumes nothing.
use Rattle.promises.proofs.ConfirmTheorem.{confirm_theorem}
use Rattle.theorems.proofs.confirmed_theorem.Goals as goal

pub returns : goal.returns
returns c = confirm_theorem

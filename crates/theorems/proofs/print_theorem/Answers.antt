-- `theorems::print_theorem` meets its contract. Assumes nothing.
use Rattle.promises.proofs.Printing.{print_theorem}
use Rattle.theorems.proofs.print_theorem.Goals as goal

pub returns : goal.returns
returns c = print_theorem

-- `theorems::numbers_theorem` meets its contract. Assumes nothing.
use Rattle.answer.proofs.Numbers.{numbers_theorem}
use Rattle.theorems.proofs.numbers_theorem.Goals as goal

pub returns : goal.returns
returns c = numbers_theorem

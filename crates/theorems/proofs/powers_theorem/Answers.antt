-- `theorems::powers_theorem` meets its contract. Assumes nothing.
use Rattle.theory.proofs.IdempotentPowers.{powers_theorem}
use Rattle.theorems.proofs.powers_theorem.Goals as goal

pub returns : goal.returns
returns c = powers_theorem

-- `theorems::formulas_theorem` meets its contract. Assumes nothing.
use Rattle.formula_promises.proofs.EqualFormulas.{formulas_theorem}
use Rattle.theorems.proofs.formulas_theorem.Goals as goal

pub returns : goal.returns
returns c = formulas_theorem

-- `theorems::formula_laws_theorem` meets its contract. Assumes nothing.
use Rattle.temporal_laws.proofs.Laws.{formula_laws}
use Rattle.theorems.proofs.formula_laws_theorem.Goals as goal

pub returns : goal.returns
returns c = formula_laws

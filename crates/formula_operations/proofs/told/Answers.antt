-- `formula_operations::told` meets its contract: each case is one of its cases. Assumes nothing.
use mathlib.Core.Path.{sym, ap}
use Rattle.formula_operations.specs.Groups.{applied_of}
use Rattle.formula_operations.proofs.told.Goals as goal

pub returns-in-Refused : goal.returns-in-Refused
returns-in-Refused c = sym (ap applied_of c.in-Refused.is)

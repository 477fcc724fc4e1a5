-- `formula_call::told` meets its contract: the copy, or the refusal. Assumes nothing.
use Rattle.formula_call.proofs.Answers.{told_done, told_refused}
use Rattle.formula_call.proofs.told.Goals as goal

pub returns-in-Ok : goal.returns-in-Ok
returns-in-Ok c =
    told_done _ c.in-Ok.is c.copy_out.ensures

pub returns-in-Err : goal.returns-in-Err
returns-in-Err c = told_refused _ _ c.in-Err.is

-- `inspect_call::inspect` meets its contract: the check's refusal is handed on; of a checked rule the counts are, and its marks are
-- cleared from scratch. Assumes nothing.
use Rattle.inspect_call.proofs.Inspecting.{inspected_rule, inspected_refused}
use Rattle.inspect_call.proofs.inspect.Goals as goal

pub returns-in-Ok : goal.returns-in-Ok
returns-in-Ok c =
    let k = c.check in
    inspected_rule _ _ _ k.result k.ensures c.in-Ok.is c.zero.ensures

pub returns-in-Err : goal.returns-in-Err
returns-in-Err c =
    let k = c.check in
    inspected_refused _ _ _ k.result k.ensures c.in-Err.is

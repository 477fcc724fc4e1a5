-- `two_rules::check_both` meets its contract: the first file's checks decide, then the second's; a refusal of the second leaves zeros.
-- Assumes nothing.
use Rattle.answer.proofs.PassedOn.{passed_on}
use Rattle.mark_strong.proofs.Calling.{checked_room}
use Rattle.two_rules.specs.Checking.{BothPromise}
use Rattle.two_rules.proofs.Checking.{first_refused, second_refused, both_checked}
use Rattle.two_rules.proofs.check_both.Goals as goal

pub returns-in_err-shape : goal.returns-in_err-shape
returns-in_err-shape c =
    let a = c.args in
    passed_on (BothPromise a.first.now a.second.now a.scratch.now c.check.new.scratch) c.from_residual.result c.from_residual.ensures.1
    (first_refused _ _ _ c.in_err-shape.ensures)

pub check_second-requires : goal.check_second-requires
check_second-requires c = checked_room 1 _ _ c.in_ok-shape.ensures

pub returns-in-Ok : goal.returns-in-Ok
returns-in-Ok c = both_checked _ _ _ c.in_ok-shape.ensures c.check_second.result _ c.check_second.ensures c.in-Ok.is

pub returns-in-Err : goal.returns-in-Err
returns-in-Err c = second_refused _ _ _ c.in_ok-shape.ensures c.check_second.result _ c.check_second.ensures c.in-Err.is c.zero.ensures

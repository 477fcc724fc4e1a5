-- `confirm_call::confirm` meets its contract: the refusal of a file is handed on; two files that pass are judged, and scratch is cleared. Assumes
-- nothing.
use Rattle.two_rules.proofs.Calling.{both_rules, both_refused}
use Rattle.confirm_call.proofs.Calling.{file_refused, files_ready, files_confirmed}
use Rattle.confirm_call.proofs.confirm.Goals as goal

pub confirm_checked-answer-requires : goal.confirm_checked-answer-requires
confirm_checked-answer-requires c =
    files_ready (both_rules _ _ _ _ _ c.check_both.ensures c.in-Ok.is)

pub returns-in-Err : goal.returns-in-Err
returns-in-Err c =
    file_refused _ _ _ _ (both_refused _ _ _ _ _ c.check_both.ensures c.in-Err.is)

pub returns-in-Ok : goal.returns-in-Ok
returns-in-Ok c =
    files_confirmed _ _ _ _ (both_rules _ _ _ _ _ c.check_both.ensures c.in-Ok.is) c.confirm_checked-answer.ensures c.zero.ensures

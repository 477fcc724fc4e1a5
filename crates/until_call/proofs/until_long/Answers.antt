-- `until_call::until_long` meets its contract: the refusal of a file is handed on; two files that pass are refused or their rule is made, and scratch is
-- cleared. Assumes nothing.
use Rattle.two_rules.proofs.Calling.{both_rules, both_refused}
use Rattle.until_call.proofs.Calling.{file_refused, both_place, files_made}
use Rattle.until_call.proofs.until_long.Goals as goal

pub until_checked-answer-requires : goal.until_checked-answer-requires
until_checked-answer-requires c = both_place _ _ _ _ _ (both_rules _ _ _ _ _ c.check_both.ensures c.in-Ok.is) c.requires

pub returns-in-Err : goal.returns-in-Err
returns-in-Err c = file_refused _ _ _ _ _ (both_refused _ _ _ _ _ c.check_both.ensures c.in-Err.is)

pub returns-in-Ok : goal.returns-in-Ok
returns-in-Ok c = files_made _ _ _ _ _ (both_rules _ _ _ _ _ c.check_both.ensures c.in-Ok.is) c.until_checked-answer.ensures c.zero.ensures

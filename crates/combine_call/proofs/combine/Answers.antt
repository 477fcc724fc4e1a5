-- `combine_call::combine` meets its contract: a short buffer is refused first, then the refusal of a file is handed on; two files that pass
-- are refused or combined, and scratch is cleared. Assumes nothing.
use Rattle.two_rules.proofs.Calling.{both_rules, both_refused}
use Rattle.combine_call.proofs.Calling.{out_short, file_refused, both_place, files_combined}
use Rattle.combine_call.proofs.combine.Goals as goal

pub returns-then-out-lt-RULE_SIZE : goal.returns-then-out-lt-RULE_SIZE
returns-then-out-lt-RULE_SIZE c = out_short _ _ _ _ c.if-out-lt-RULE_SIZE.true

pub combine_checked-answer-requires : goal.combine_checked-answer-requires
combine_checked-answer-requires c =
    both_place _ _ _ _ c.if-out-lt-RULE_SIZE.false (both_rules _ _ _ _ _ c.check_both.ensures c.in-Ok.is)

pub returns-in-Err : goal.returns-in-Err
returns-in-Err c =
    file_refused _ _ _ _ c.if-out-lt-RULE_SIZE.false (both_refused _ _ _ _ _ c.check_both.ensures c.in-Err.is)

pub returns-in-Ok : goal.returns-in-Ok
returns-in-Ok c =
    files_combined _ _ _ _ c.if-out-lt-RULE_SIZE.false (both_rules _ _ _ _ _ c.check_both.ensures c.in-Ok.is) c.combine_checked-answer.ensures
    c.zero.ensures

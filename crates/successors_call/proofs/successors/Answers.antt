-- `successors_call::successors` meets its contract: a short buffer is refused first, then the check's refusal is handed on; then no such state, then
-- no such letter; else the list is written. Assumes nothing.
use Rattle.rule_check.proofs.Calls.{checked_rule, checked_refused}
use Rattle.mark_strong.proofs.Calling.{checked_table}
use Rattle.successors_call.proofs.Calling.{successors_short, successors_refused, successors_missing, successors_letter, list_place, successors_listed}
use mathlib.Core.Bool.{not}
use mathlib.Core.Path.{ap}
use Rattle.successors_call.proofs.successors.Goals as goal

pub returns-then-out-lt-SUCCESSORS_SIZE : goal.returns-then-out-lt-SUCCESSORS_SIZE
returns-then-out-lt-SUCCESSORS_SIZE c = successors_short _ _ _ _ _ _ c.if-out-lt-SUCCESSORS_SIZE.true

pub returns-in-Err : goal.returns-in-Err
returns-in-Err c =
    successors_refused _ _ _ _ _ _ c.if-out-lt-SUCCESSORS_SIZE.false (checked_refused 1 _ _ _ _ c.check.ensures c.in-Err.is)

pub is_state-found-requires : goal.is_state-found-requires
is_state-found-requires c =
    checked_table 1 _ _ (checked_rule 1 _ _ _ _ c.check.ensures c.in-Ok.is)

pub returns-then-not-found : goal.returns-then-not-found
returns-then-not-found c =
    successors_missing _ _ _ _ _ _ c.if-out-lt-SUCCESSORS_SIZE.false (checked_rule 1 _ _ _ _ c.check.ensures c.in-Ok.is) c.zero.ensures
    c.is_state-found.ensures (ap not c.if-not-found.true)

pub returns-then-k-a : goal.returns-then-k-a
returns-then-k-a c =
    successors_letter _ _ _ _ _ _ c.if-out-lt-SUCCESSORS_SIZE.false (checked_rule 1 _ _ _ _ c.check.ensures c.in-Ok.is) c.zero.ensures
    c.is_state-found.ensures (ap not c.if-not-found.false) c.if-k-a.true

pub list_successors-count-requires : goal.list_successors-count-requires
list_successors-count-requires c =
    list_place _ _ _ _ _ _ c.if-out-lt-SUCCESSORS_SIZE.false (checked_rule 1 _ _ _ _ c.check.ensures c.in-Ok.is) c.zero.ensures
    c.is_state-found.ensures (ap not c.if-not-found.false) c.if-k-a.false

pub returns : goal.returns
returns c =
    successors_listed _ _ _ _ _ _ c.if-out-lt-SUCCESSORS_SIZE.false (checked_rule 1 _ _ _ _ c.check.ensures c.in-Ok.is) c.zero.ensures
    c.is_state-found.ensures (ap not c.if-not-found.false) c.if-k-a.false c.list_successors-count.ensures

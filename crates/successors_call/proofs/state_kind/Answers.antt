-- `successors_call::state_kind` meets its contract: the check's refusal is handed on, and else what is said of the state. Assumes nothing.
use native.Mathlib.Omega.{arith}
use Rattle.rule_check.proofs.Calls.{checked_rule, checked_refused}
use Rattle.mark_strong.proofs.Calling.{checked_table, checked_room}
use Rattle.successors_call.proofs.Calling.{kind_refused, kind_told}
use Rattle.successors_call.proofs.state_kind.Goals as goal

pub returns-in-Err : goal.returns-in-Err
returns-in-Err c =
    kind_refused _ _ _ _ _ (checked_refused 1 _ _ _ _ c.check.ensures c.in-Err.is)

pub kind_of-kind-requires : goal.kind_of-kind-requires
kind_of-kind-requires c =
    let p = checked_rule 1 _ _ _ _ c.check.ensures c.in-Ok.is in record {
      table = checked_table 1 _ _ p;
      mark_table_size_in_bounds = omega (arith, checked_room 1 _ _ p);
    }

pub returns : goal.returns
returns c =
    kind_told _ _ _ _ _ (checked_rule 1 _ _ _ _ c.check.ensures c.in-Ok.is) c.zero.ensures _ c.kind_of-kind.ensures

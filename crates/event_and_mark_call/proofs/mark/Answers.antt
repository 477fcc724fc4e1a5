-- `event_and_mark_call::mark` meets its contract: before is multiplied by since, and since is none again. Assumes nothing.
use Rattle.monitor_state.proofs.Prepared.{ready_said, not_ready, ready_table, ready_monitor}
use Rattle.event_and_mark_call.proofs.Moves.{mark_refused, mark_moved}
use Rattle.event_and_mark_call.proofs.mark.Goals as goal

pub returns-in-Err : goal.returns-in-Err
returns-in-Err c =
    let a = c.prepare in
    mark_refused _ _ _ _ (not_ready _ _ _ _ a.result a.ensures c.in-Err.is)

pub moved-requires : goal.moved-requires
moved-requires c =
    let a = c.prepare in
    let p = ready_said _ _ _ _ a.result a.ensures c.in-Ok.is in record {
      table = ready_table _ _ _ _ p;
      good_monitor = ready_monitor _ _ _ _ p;
      fact = λ foreign. foreign;
    }

pub returns : goal.returns
returns c =
    let a = c.prepare in
    mark_moved _ _ _ _ (ready_said _ _ _ _ a.result a.ensures c.in-Ok.is) c.moved.ensures.moved

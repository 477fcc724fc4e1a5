-- `feed_call::feed` meets its contract: the rule, the monitor and the word are checked, and then each letter moves the monitor. Assumes nothing.
use Rattle.monitor_state.proofs.Prepared.{ready_said, not_ready, ready_table, ready_monitor}
use Rattle.monitor_steps.proofs.WordFaults.{said_good_log, said_bad_log}
use Rattle.feed_call.proofs.Ways.{feed_refused, feed_fault, feed_moved}
use Rattle.feed_call.proofs.feed.Goals as goal

pub returns-in-Err : goal.returns-in-Err
returns-in-Err c =
    let a = c.prepare in
    feed_refused _ _ _ _ _ (not_ready _ _ _ _ a.result a.ensures c.in-Err.is)

pub returns-in-Err-log_fault : goal.returns-in-Err-log_fault
returns-in-Err-log_fault c =
    let a = c.prepare in
    let asked = c.log_fault in
    feed_fault _ _ _ _ _ (ready_said _ _ _ _ a.result a.ensures c.in-Ok.is) (said_bad_log _ _ asked.result asked.ensures c.in-Err-log_fault.is)

pub moved_by_word-last-requires : goal.moved_by_word-last-requires
moved_by_word-last-requires c =
    let a = c.prepare in
    let asked = c.log_fault in
    let p = ready_said _ _ _ _ a.result a.ensures c.in-Ok.is in record {
      table = ready_table _ _ _ _ p;
      good_monitor = ready_monitor _ _ _ _ p;
      over = (said_good_log _ _ asked.result asked.ensures c.in-Ok-log_fault.is).over;
    }

pub returns : goal.returns
returns c =
    let a = c.prepare in
    let asked = c.log_fault in
    feed_moved _ _ _ _ _ (ready_said _ _ _ _ a.result a.ensures c.in-Ok.is) (said_good_log _ _ asked.result asked.ensures c.in-Ok-log_fault.is)
    c.moved_by_word-last.ensures.moved

-- `event_and_mark_call::event` meets its contract: a foreign letter is refused, and any other multiplies since. Assumes nothing.
use native.Mathlib.Omega.{arith}
use Rattle.monitor_state.proofs.Prepared.{ready_said, not_ready, ready_table, ready_monitor}
use Rattle.event_and_mark_call.proofs.Moves.{event_refused, event_foreign, event_moved}
use Rattle.event_and_mark_call.proofs.event.Goals as goal

pub returns-in-Err : goal.returns-in-Err
returns-in-Err c =
    let a = c.prepare in
    event_refused _ _ _ _ _ (not_ready _ _ _ _ a.result a.ensures c.in-Err.is)

pub returns-then-k-letter : goal.returns-then-k-letter
returns-then-k-letter c =
    let a = c.prepare in
    event_foreign _ _ _ _ _ (ready_said _ _ _ _ a.result a.ensures c.in-Ok.is) c.if-k-letter.true

pub moved-requires : goal.moved-requires
moved-requires c =
    let a = c.prepare in
    let p = ready_said _ _ _ _ a.result a.ensures c.in-Ok.is in record {
      table = ready_table _ _ _ _ p;
      good_monitor = ready_monitor _ _ _ _ p;
      fact = λ h. omega arith;
    }

pub returns : goal.returns
returns c =
    let a = c.prepare in
    event_moved _ _ _ _ _ (ready_said _ _ _ _ a.result a.ensures c.in-Ok.is) c.if-k-letter.false c.moved.ensures.moved

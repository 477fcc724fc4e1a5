-- `advance_call::advance` meets its contract: the rule's checks, the monitor's values and the strength, and then the step. Assumes nothing.
use Rattle.monitor_standing.proofs.Ways.{said_stands, said_refused}
use Rattle.advance_call.proofs.Ways.{step_not_standing, step_answered}
use Rattle.advance_call.proofs.advance.Goals as goal

pub returns-in-Err : goal.returns-in-Err
returns-in-Err c =
    step_not_standing _ _ _ _ (said_refused _ _ _ _ _ c.check_standing.result c.check_standing.ensures c.in-Err.is) _

pub step_answer-answer-requires : goal.step_answer-answer-requires
step_answer-answer-requires c =
    let s = said_stands _ _ _ _ _ c.check_standing.result c.check_standing.ensures c.in-Ok.is in record {
      table = s.table;
      lawful = s.lawful;
      good_monitor = s.good;
      scratch_size_in_bounds = s.room;
    }

pub returns : goal.returns
returns c =
    let s = said_stands _ _ _ _ _ c.check_standing.result c.check_standing.ensures c.in-Ok.is in
    step_answered s c.zero.ensures c.step_answer-answer.result _ c.step_answer-answer.ensures

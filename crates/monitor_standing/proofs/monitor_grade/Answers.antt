-- `monitor_standing::monitor_grade` meets its contract: none for a since that is none, else one look in the closure. Assumes nothing.
use Rattle.verdict_call.proofs.Values.{values_judgeable, start_below}
use Rattle.monitor_standing.proofs.Readings.{grade_none, turns_none, grade_some, turns_some}
use Rattle.monitor_standing.proofs.monitor_grade.Goals as goal

pub returns-then-since-eq64 : goal.returns-then-since-eq64
returns-then-since-eq64 c = record {
  grade = grade_none c.if-since-eq64.true;
  turns = turns_none c.if-since-eq64.true;
}

pub values_grade-requires : goal.values_grade-requires
values_grade-requires c =
    let j = values_judgeable _ _ c.requires.good_monitor c.if-since-eq64.false in record {
      table = c.requires.table;
      lawful = c.requires.lawful;
      before_lt_n = (start_below j c.start_element-start.ensures, j.since_inside);
      scratch_size_in_bounds = c.requires.scratch_size_in_bounds;
    }

pub returns : goal.returns
returns c =
    let some = c.if-since-eq64.false in record {
      grade = grade_some some c.start_element-start.ensures c.values_grade.ensures.grade;
      turns = turns_some some c.values_grade.ensures.turns;
    }

-- `verdict_call::verdict` meets its contract: the rule's checks, the monitor's values, and then the judgement. Assumes nothing.
use Rattle.rule_check.proofs.Calls.{checked_rule, checked_refused}
use Rattle.mark_strong.proofs.Calling.{checked_table, decide_place}
use Rattle.verdict_call.proofs.Values.{start_below, said_judgeable, said_fault}
use Rattle.verdict_call.proofs.Ways.{rule_refused, value_refused, judged_verdict}
use Rattle.verdict_call.proofs.verdict.Goals as goal

pub returns-in-Err : goal.returns-in-Err
returns-in-Err c =
    rule_refused _ _ _ (checked_refused 1 _ _ _ c.check.result c.check.ensures c.in-Err.is)

pub returns-in-Err-values_fault : goal.returns-in-Err-values_fault
returns-in-Err-values_fault c =
    let p = checked_rule 1 _ _ _ c.check.result c.check.ensures c.in-Ok.is in
    value_refused _ _ _ p (said_fault _ _ c.values_fault.result c.values_fault.ensures c.in-Err-values_fault.is) c.zero.ensures

pub judge-requires : goal.judge-requires
judge-requires c =
    let p = checked_rule 1 _ _ _ c.check.result c.check.ensures c.in-Ok.is in
    let b = said_judgeable _ _ c.values_fault.result c.values_fault.ensures c.in-Ok-values_fault.is in record {
      table = checked_table 1 _ _ p;
      decide_needs = decide_place 1 _ _ p;
      before_lt_n = (start_below b c.start_element-start.ensures, b.since_inside);
    }

pub returns : goal.returns
returns c =
    let p = checked_rule 1 _ _ _ c.check.result c.check.ensures c.in-Ok.is in
    judged_verdict _ _ _ p (said_judgeable _ _ c.values_fault.result c.values_fault.ensures c.in-Ok-values_fault.is) c.start_element-start.ensures c.judge.ensures

-- `summarize_call::summarize` meets its contract: a short buffer is refused first, then the inspection's refusal is handed on; a rule that
-- passes is measured. Assumes nothing.
use Rattle.summarize_call.proofs.Summing.{work_short, summary_refused, measure_place, inspected_counts, summary_measured}
use Rattle.summarize_call.proofs.summarize.Goals as goal

pub returns-then-work-lt-RULE_SIZE : goal.returns-then-work-lt-RULE_SIZE
returns-then-work-lt-RULE_SIZE c = work_short _ _ _ c.if-work-lt-RULE_SIZE.true

pub measure-requires : goal.measure-requires
measure-requires c =
    let said = c.in-Rule.is in record {
      checked_needs = measure_place _ _ _ c.if-work-lt-RULE_SIZE.false c.inspect.result c.inspect.ensures said;
      rule_counts = inspected_counts c.inspect.result c.inspect.ensures said;
    }

pub returns-in-Rule : goal.returns-in-Rule
returns-in-Rule c =
    summary_measured _ _ _ c.if-work-lt-RULE_SIZE.false c.inspect.result c.inspect.ensures c.in-Rule.is
    c.measure.result c.measure.ensures

pub returns-in-Refused : goal.returns-in-Refused
returns-in-Refused c =
    summary_refused _ _ _ c.if-work-lt-RULE_SIZE.false c.inspect.result c.inspect.ensures c.in-Refused.is

-- `rule_check::check_rule` meets its contract: the table of marks is made blank, then the sections decide, then the contents. Assumes nothing.
use Rattle.rule_check.proofs.Promise.{blank_marks, layout_verdict, content_verdict, rule_verdict}
use Rattle.rule_check.proofs.check_rule.Goals as goal

pub returns-in-Err : goal.returns-in-Err
returns-in-Err c =
    layout_verdict c.args.input c.args.rule.now c.args.scratch.now c.zero_part.ensures c.in-Err.ensures c.in_input.ensures

pub content_fault-requires : goal.content_fault-requires
content_fault-requires c = record {
  layout_passed = c.in-Ok.ensures;
  blank_marks = blank_marks c.requires c.zero_part.ensures;
}

pub returns-in-Ok-content_fault : goal.returns-in-Ok-content_fault
returns-in-Ok-content_fault c =
    rule_verdict c.args.input c.args.rule.now c.args.scratch.now c.in-Ok.ensures c.zero_part.ensures c.in-Ok-content_fault.ensures.refusal
    c.in-Ok-content_fault.ensures.marks

pub returns-in-Err-content_fault : goal.returns-in-Err-content_fault
returns-in-Err-content_fault c =
    content_verdict c.args.input c.args.rule.now c.args.scratch.now c.in-Ok.ensures c.zero_part.ensures c.in-Err-content_fault.ensures.marks
    c.in-Err-content_fault.ensures.refusal c.in_input-in-Err-content_fault.ensures

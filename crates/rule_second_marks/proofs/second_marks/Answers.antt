-- `rule_second_marks::second_marks` meets its contract: the section's own checks, then what follows it, then its marks. Assumes nothing.
use Rattle.std.proofs.Common.{arith, List, ℕ, ◌≤◌, ◌<◌, length, subst}
use Rattle.answer.proofs.PassedOn.{passed_on}
use Rattle.formats.specs.RuleChecks.{second_marks_checks}
use Rattle.rule_marks.specs.Faults.{FaultAnswer}
use Rattle.rule_second_marks.proofs.Second.{count_small, end_inside, marks_room, second_cut, second_trailing, second_decides, second_laid}
use Rattle.rule_second_marks.proofs.second_marks.Goals as goal

pub returns-in_err-count-clause-refusal : goal.returns-in_err-count-clause-refusal
returns-in_err-count-clause-refusal c =
    passed_on (FaultAnswer (λ input. second_marks_checks input c.args.rule.now c.args.bytes.now)) c.from_residual.result c.from_residual.ensures.1
    (second_cut c.args.rule.now c.args.bytes.now c.requires.n_value.0 c.requires.n_value.1 c.in_err-count.ensures)

pub overflow_mul-end : goal.overflow_mul-end
overflow_mul-end c = omega (arith, count_small _ c.in_ok-count.ensures)

pub overflow_add-end : goal.overflow_add-end
overflow_add-end c = omega (arith, count_small _ c.in_ok-count.ensures)

pub rest_after-rest-requires : goal.rest_after-rest-requires
rest_after-rest-requires c = end_inside _ c.in_ok-count.ensures

pub returns-then-rest-gt0-clause-refusal : goal.returns-then-rest-gt0-clause-refusal
returns-then-rest-gt0-clause-refusal c =
    second_trailing c.args.rule.now c.args.bytes.now c.requires.n_value.0 c.requires.n_value.1 c.in_ok-count.ensures
    (subst (λ (l : List ℕ). 0 < length l) c.rest_after-rest.ensures c.if-rest-gt0.true)

pub mark_fault-requires : goal.mark_fault-requires
mark_fault-requires c = record {
  table = c.requires.table;
  marks_room = marks_room _ c.in_ok-count.ensures c.requires.marks_space;
}

pub returns : goal.returns
returns c =
    let fault = c.mark_fault in record {
      refusal = second_decides c.args.rule.now c.args.bytes.now c.requires.n_value.0 c.requires.n_value.1 c.in_ok-count.ensures
          (subst (λ (l : List ℕ). length l ≤ 0) c.rest_after-rest.ensures c.if-rest-gt0.false) fault.result fault.ensures.refusal;
      laid = second_laid c.args.rule.now c.args.bytes.now c.requires.n_value.0 c.requires.n_value.1 c.in_ok-count.ensures _ _ fault.result fault.ensures.laid;
    }

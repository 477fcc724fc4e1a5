-- `rule_check::content_fault` meets its contract: the first of its checks that fails decides, and after good marks the table of
-- scratch holds them. Assumes nothing.
use Rattle.std.proofs.Common.{arith, ◌<◌, ◌≤◌, length, List, ℕ, subst, Err}
use Rattle.answer.proofs.PassedOn.{passed_on}
use Rattle.formats.specs.RuleChecks.{content_checks}
use Rattle.rule_marks.specs.Faults.{FaultAnswer}
use Rattle.rule_check.proofs.Faults.{fault_trailing, table_refuses}
use Rattle.rule_check.proofs.Content.{square_small, k_small, count_small, end_is, end_in, table_is, marks_room, of_table, marks_answer, marks_laid}
use Rattle.rule_check.proofs.content_fault.Goals as goal

pub overflow_add-marks_at-2 : goal.overflow_add-marks_at-2
overflow_add-marks_at-2 c = let p = c.requires.layout_passed in omega (arith, square_small _ _ p, k_small _ _ p)

pub overflow_add-marks_at-3 : goal.overflow_add-marks_at-3
overflow_add-marks_at-3 c = let p = c.requires.layout_passed in omega (arith, square_small _ _ p, k_small _ _ p)

pub overflow_mul-end : goal.overflow_mul-end
overflow_mul-end c = omega (arith, count_small _ _ c.requires.layout_passed)

pub overflow_add-end : goal.overflow_add-end
overflow_add-end c = omega (arith, count_small _ _ c.requires.layout_passed)

pub overflow_add-end-2 : goal.overflow_add-end-2
overflow_add-end-2 c = let p = c.requires.layout_passed in omega (arith, square_small _ _ p, k_small _ _ p, count_small _ _ p)

pub rest_after-rest-requires : goal.rest_after-rest-requires
rest_after-rest-requires c = end_in _ _ c.requires.layout_passed

pub returns-then-rest-gt0-clause-refusal : goal.returns-then-rest-gt0-clause-refusal
returns-then-rest-gt0-clause-refusal c =
    fault_trailing c.args.rule.now (end_is _ _ c.requires.layout_passed) (subst (λ (l : List ℕ). 0 < length l) c.rest_after-rest.ensures c.if-rest-gt0.true)

pub table_fault-requires : goal.table_fault-requires
table_fault-requires c = table_is _ _ c.requires.layout_passed

pub returns-in_err-table_fault-clause-refusal : goal.returns-in_err-table_fault-clause-refusal
returns-in_err-table_fault-clause-refusal c =
    let p = c.requires.layout_passed in
    passed_on (FaultAnswer (λ input. content_checks input c.args.rule.now)) c.from_residual.result c.from_residual.ensures.1
    (table_refuses c.args.rule.now (end_is _ _ p) (subst (λ (l : List ℕ). length l ≤ 0) c.rest_after-rest.ensures c.if-rest-gt0.false)
    (of_table _ _ p (Err c.in_err-table_fault.field-0.0) c.in_err-table_fault.ensures))

pub mark_fault-requires-clause-table : goal.mark_fault-requires-clause-table
mark_fault-requires-clause-table c = table_is _ _ c.requires.layout_passed

pub mark_fault-requires-clause-marks_room : goal.mark_fault-requires-clause-marks_room
mark_fault-requires-clause-marks_room c = marks_room _ _ c.requires.layout_passed c.requires.blank_marks

pub returns-clause-refusal : goal.returns-clause-refusal
returns-clause-refusal c =
    let p = c.requires.layout_passed in
    marks_answer _ _ p (subst (λ (l : List ℕ). length l ≤ 0) c.rest_after-rest.ensures c.if-rest-gt0.false) c.in_ok-table_fault.ensures c.mark_fault.result
    c.mark_fault.ensures.refusal

pub returns-clause-marks : goal.returns-clause-marks
returns-clause-marks c = marks_laid _ _ c.requires.layout_passed _ _ c.mark_fault.result c.mark_fault.ensures.laid

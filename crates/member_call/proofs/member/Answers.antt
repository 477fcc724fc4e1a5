-- `member_call::member` meets its contract: the rule's checks decide, then the words', and else the cuts of one turn. Assumes nothing.
use Rattle.rule_check.proofs.Calls.{checked_rule, checked_refused}
use Rattle.member_call.proofs.Ways.{words_good, words_refused, rule_refused, member_table, member_lawful, member_long, word_refused, start_word, cycle_word, cycle_inside, member_decided}
use Rattle.member_call.proofs.member.Goals as goal

pub returns-in-Err : goal.returns-in-Err
returns-in-Err c = rule_refused _ _ _ _ (checked_refused 1 _ _ _ c.check.result c.check.ensures c.in-Err.is)

pub returns-in-Err-lasso_fault : goal.returns-in-Err-lasso_fault
returns-in-Err-lasso_fault c =
    word_refused _ _ _ _ (checked_rule 1 _ _ _ c.check.result c.check.ensures c.in-Ok.is) _ (words_refused _ _ _ c.lasso_fault.result c.lasso_fault.ensures c.in-Err-lasso_fault.is) c.zero.ensures

pub lasso_grade-graded-requires : goal.lasso_grade-graded-requires
lasso_grade-graded-requires c =
    let a = c.args in
    let p = (checked_rule 1 _ _ _ c.check.result c.check.ensures c.in-Ok.is) in
    let g = (words_good _ _ _ c.lasso_fault.result c.lasso_fault.ensures c.in-Ok-lasso_fault.is) in record {
      table = member_table _ a.u.now a.v.now _ p;
      lawful = member_lawful _ a.u.now a.v.now _ p;
      call_word = start_word _ _ _ _ p g;
      call_word_2 = cycle_word _ _ _ _ p g;
      scratch_size_in_bounds = member_long _ a.u.now a.v.now _ p;
    }

pub idempotent_power-power-requires : goal.idempotent_power-power-requires
idempotent_power-power-requires c =
    let a = c.args in
    let p = checked_rule 1 _ _ _ c.check.result c.check.ensures c.in-Ok.is in
    let g = words_good _ _ _ c.lasso_fault.result c.lasso_fault.ensures c.in-Ok-lasso_fault.is in record {
      table = member_table _ a.u.now a.v.now _ p;
      lawful = member_lawful _ a.u.now a.v.now _ p;
      x_lt_n = cycle_inside _ _ _ _ p g c.lasso_grade-graded.ensures.cycle;
    }

pub returns : goal.returns
returns c =
    let p = checked_rule 1 _ _ _ c.check.result c.check.ensures c.in-Ok.is in
    let g = words_good _ _ _ c.lasso_fault.result c.lasso_fault.ensures c.in-Ok-lasso_fault.is in
    let a = c.lasso_grade-graded in
    member_decided _ _ _ _ p g a.ensures.grade a.ensures.cycle c.idempotent_power-power.ensures a.new.scratch _ a.auto.scratch c.zero-2.ensures

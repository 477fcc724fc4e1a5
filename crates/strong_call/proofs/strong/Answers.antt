use Rattle.rule_check.proofs.Calls.{checked_rule, checked_refused}
use Rattle.mark_strong.proofs.Calling.{checked_table, decide_place}
use Rattle.strong_call.proofs.Verdicts.{strong_refused, says_strong, says_weak}
use Rattle.strong_call.proofs.strong.Goals as goal

pub returns-in-Err : goal.returns-in-Err
returns-in-Err c = strong_refused _ _ (checked_refused 1 _ _ _ _ c.check.ensures c.in-Err.is)

pub decide-strong-requires : goal.decide-strong-requires
decide-strong-requires c =
    let p = checked_rule 1 _ _ _ _ c.check.ensures c.in-Ok.is in record {
      table = checked_table 1 _ _ p;
      decide_needs = decide_place 1 _ _ p;
    }

pub returns-then-strong : goal.returns-then-strong
returns-then-strong c =
    says_strong _ _ (checked_rule 1 _ _ _ _ c.check.ensures c.in-Ok.is) c.decide-strong.ensures _ c.zero.ensures c.if-strong.true

pub returns : goal.returns
returns c =
    says_weak _ _ (checked_rule 1 _ _ _ _ c.check.ensures c.in-Ok.is) c.decide-strong.ensures _ c.zero.ensures c.if-strong.false

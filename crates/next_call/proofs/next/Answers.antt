-- A short buffer is refused first, then the check's refusal is handed on; a rule that is not strong is refused; of a strong rule the rule of `next` is written,
-- or there are too many classes. Assumes nothing.
use borrow.Author.Tests.{not-true, not-false}
use Rattle.rule_check.proofs.Calls.{checked_rule, checked_refused}
use Rattle.mark_strong.proofs.Calling.{checked_table, decide_place}
use Rattle.next_call.proofs.Calling.{out_short, next_refused, next_place, next_weak, next_said}
use mathlib.Core.Bool.{not}
use mathlib.Core.Path.{ap}
use Rattle.next_call.proofs.next.Goals as goal

pub returns-then-out-lt-RULE_SIZE : goal.returns-then-out-lt-RULE_SIZE
returns-then-out-lt-RULE_SIZE c = out_short _ _ _ c.if-out-lt-RULE_SIZE.true

pub returns-in-Err : goal.returns-in-Err
returns-in-Err c = next_refused _ _ _ c.if-out-lt-RULE_SIZE.false (checked_refused 1 _ _ _ _ c.check.ensures c.in-Err.is)

pub decide-strong-requires : goal.decide-strong-requires
decide-strong-requires c =
    let p = checked_rule 1 _ _ _ _ c.check.ensures c.in-Ok.is in record {
      table = checked_table 1 _ _ p;
      decide_needs = decide_place 1 _ _ p;
    }

pub returns-then-not-strong : goal.returns-then-not-strong
returns-then-not-strong c =
    next_weak _ _ _ c.if-out-lt-RULE_SIZE.false (checked_rule 1 _ _ _ _ c.check.ensures c.in-Ok.is) c.decide-strong.ensures _ c.zero.ensures
    (not-true _ (ap not c.if-not-strong.true))

pub write_next-file-requires : goal.write_next-file-requires
write_next-file-requires c =
    let p = checked_rule 1 _ _ _ _ c.check.ensures c.in-Ok.is in record {
      table = checked_table 1 _ _ p;
      next_needs = next_place _ _ _ c.if-out-lt-RULE_SIZE.false p c.decide-strong.ensures;
    }

pub returns : goal.returns
returns c =
    next_said _ _ _ c.if-out-lt-RULE_SIZE.false (checked_rule 1 _ _ _ _ c.check.ensures c.in-Ok.is) c.decide-strong.ensures (not-false _ (ap not c.if-not-strong.false)) _
    c.write_next-file.ensures _ c.zero-2.ensures c.formed.ensures

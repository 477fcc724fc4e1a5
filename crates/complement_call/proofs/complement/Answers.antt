use native.Mathlib.Omega.{arith}
use Rattle.rule_check.proofs.Calls.{checked_rule, checked_refused}
use Rattle.mark_strong.proofs.Calling.{checked_table, checked_room, decide_place}
use Rattle.complement_call.proofs.Calling.{out_short, rule_refused, weak_refused, write_place, complement_written}
use mathlib.Core.Bool.{not}
use mathlib.Core.Path.{ap}
use Rattle.complement_call.proofs.complement.Goals as goal

pub returns-then-out-lt-RULE_SIZE : goal.returns-then-out-lt-RULE_SIZE
returns-then-out-lt-RULE_SIZE c = out_short _ _ _ c.if-out-lt-RULE_SIZE.true

pub returns-in-Err : goal.returns-in-Err
returns-in-Err c =
    rule_refused _ _ _ c.if-out-lt-RULE_SIZE.false (checked_refused 1 _ _ _ _ c.check.ensures c.in-Err.is)

pub decide-strong-requires : goal.decide-strong-requires
decide-strong-requires c =
    let p = checked_rule 1 _ _ _ _ c.check.ensures c.in-Ok.is in record {
      table = checked_table 1 _ _ p;
      decide_needs = decide_place 1 _ _ p;
    }

pub returns-then-not-strong : goal.returns-then-not-strong
returns-then-not-strong c =
    weak_refused _ _ _ c.if-out-lt-RULE_SIZE.false (checked_rule 1 _ _ _ _ c.check.ensures c.in-Ok.is) c.decide-strong.ensures (ap not c.if-not-strong.true) c.zero.ensures

pub complement_marks-requires : goal.complement_marks-requires
complement_marks-requires c =
    let p = checked_rule 1 _ _ _ _ c.check.ensures c.in-Ok.is in record {
      table = checked_table 1 _ _ p;
      tables_end_in_bounds = omega (arith, checked_room 1 _ _ p, c.decide-strong.ensures.same_length);
    }

pub write_marked-length-requires : goal.write_marked-length-requires
write_marked-length-requires c =
    let p = checked_rule 1 _ _ _ _ c.check.ensures c.in-Ok.is in record {
      table = checked_table 1 _ _ p;
      write_needs = write_place _ _ _ c.if-out-lt-RULE_SIZE.false p c.decide-strong.ensures c.complement_marks.ensures;
    }

pub returns : goal.returns
returns c =
    complement_written _ _ _ c.if-out-lt-RULE_SIZE.false (checked_rule 1 _ _ _ _ c.check.ensures c.in-Ok.is) c.decide-strong.ensures c.complement_marks.ensures (ap not c.if-not-strong.false) c.write_marked-length.ensures c.zero-2.ensures

-- `reduce_call::reduce` meets its contract: a short buffer is refused first, then the check's refusal is handed on; a rule that is
-- not strong is refused; of a strong rule the reduction is written, and the map to it. Assumes nothing.
use borrow.Author.Tests.{not-true, not-false}
use Rattle.rule_check.proofs.Calls.{checked_rule, checked_refused}
use Rattle.mark_strong.proofs.Calling.{checked_table, decide_place}
use Rattle.reduce_call.proofs.Calling.{out_short, map_short, reduce_refused, reduce_place, reduce_weak, reduce_strong}
use mathlib.Core.Bool.{not}
use mathlib.Core.Path.{ap}
use Rattle.reduce_call.proofs.reduce.Goals as goal

pub returns-then-out-lt-RULE_SIZE : goal.returns-then-out-lt-RULE_SIZE
returns-then-out-lt-RULE_SIZE c = out_short _ _ _ _ c.if-out-lt-RULE_SIZE.true

pub returns-then-map-lt-MAP_SIZE : goal.returns-then-map-lt-MAP_SIZE
returns-then-map-lt-MAP_SIZE c = map_short _ _ _ _ c.if-out-lt-RULE_SIZE.false c.if-map-lt-MAP_SIZE.true

pub returns-in-Err : goal.returns-in-Err
returns-in-Err c =
    reduce_refused _ _ _ _ c.if-out-lt-RULE_SIZE.false c.if-map-lt-MAP_SIZE.false (checked_refused 1 _ _ _ _ c.check.ensures c.in-Err.is)

pub decide-strong-requires : goal.decide-strong-requires
decide-strong-requires c =
    let p = checked_rule 1 _ _ _ _ c.check.ensures c.in-Ok.is in record {
      table = checked_table 1 _ _ p;
      decide_needs = decide_place 1 _ _ p;
    }

pub returns-then-not-strong : goal.returns-then-not-strong
returns-then-not-strong c =
    reduce_weak _ _ _ _ c.if-out-lt-RULE_SIZE.false c.if-map-lt-MAP_SIZE.false (checked_rule 1 _ _ _ _ c.check.ensures c.in-Ok.is) c.decide-strong.ensures
    _ c.zero.ensures (not-true _ (ap not c.if-not-strong.true))

pub write_reduced-length-requires : goal.write_reduced-length-requires
write_reduced-length-requires c =
    let p = checked_rule 1 _ _ _ _ c.check.ensures c.in-Ok.is in record {
      table = checked_table 1 _ _ p;
      reduce_needs = reduce_place _ _ _ _ c.if-out-lt-RULE_SIZE.false c.if-map-lt-MAP_SIZE.false p c.decide-strong.ensures;
    }

pub returns : goal.returns
returns c =
    reduce_strong _ _ _ _ c.if-out-lt-RULE_SIZE.false c.if-map-lt-MAP_SIZE.false (checked_rule 1 _ _ _ _ c.check.ensures c.in-Ok.is)
    c.decide-strong.ensures c.write_reduced-length.ensures (not-false _ (ap not c.if-not-strong.false)) _ c.zero-2.ensures

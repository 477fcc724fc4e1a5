use Rattle.rule_check.proofs.Calls.{checked_rule, checked_refused}
use Rattle.mark_strong.proofs.Calling.{checked_table}
use Rattle.included_call.proofs.Calling.{start_short, cycle_short, rule_refused, second_room, second_refused, compare_place, both_compared}
use Rattle.included_call.proofs.included.Goals as goal

pub returns-then-u-lt-START_SIZE : goal.returns-then-u-lt-START_SIZE
returns-then-u-lt-START_SIZE c = start_short _ _ _ _ _ c.if-u-lt-START_SIZE.true

pub returns-then-v-lt-CYCLE_SIZE : goal.returns-then-v-lt-CYCLE_SIZE
returns-then-v-lt-CYCLE_SIZE c = cycle_short _ _ _ _ _ c.if-u-lt-START_SIZE.false c.if-v-lt-CYCLE_SIZE.true

pub returns-in-Err : goal.returns-in-Err
returns-in-Err c =
    rule_refused _ _ _ _ _ c.if-u-lt-START_SIZE.false c.if-v-lt-CYCLE_SIZE.false (checked_refused 1 _ _ _ _ c.check.ensures c.in-Err.is)

pub lay_second-requires : goal.lay_second-requires
lay_second-requires c =
    let p = checked_rule 1 _ _ _ _ c.check.ensures c.in-Ok.is in record {
      table = checked_table 1 _ _ p;
      n_value = (p.scratch.shape_is.elements, p.scratch.shape_is.letters);
      scratch_size_in_bounds = second_room _ c.args.second.now c.args.u.now c.args.v.now _ c.if-u-lt-START_SIZE.false c.if-v-lt-CYCLE_SIZE.false p;
    }

pub returns-in-Err-lay_second : goal.returns-in-Err-lay_second
returns-in-Err-lay_second c =
    second_refused _ _ _ _ _ c.if-u-lt-START_SIZE.false c.if-v-lt-CYCLE_SIZE.false (checked_rule 1 _ _ _ _ c.check.ensures c.in-Ok.is) c.lay_second.result c.lay_second.ensures.refusal _ c.lay_second.ensures.laid c.in-Err-lay_second.is c.zero.ensures

pub compare-requires : goal.compare-requires
compare-requires c =
    let p = checked_rule 1 _ _ _ _ c.check.ensures c.in-Ok.is in record {
      table = checked_table 1 _ _ p;
      compare_needs = compare_place _ _ c.args.u.now c.args.v.now _ c.if-u-lt-START_SIZE.false c.if-v-lt-CYCLE_SIZE.false p c.lay_second.result c.lay_second.ensures.refusal _ c.lay_second.ensures.laid c.in-Ok-lay_second.is;
      in_bounds = (c.if-u-lt-START_SIZE.false, c.if-v-lt-CYCLE_SIZE.false);
    }

pub returns : goal.returns
returns c =
    both_compared _ _ _ _ _ c.if-u-lt-START_SIZE.false c.if-v-lt-CYCLE_SIZE.false (checked_rule 1 _ _ _ _ c.check.ensures c.in-Ok.is) c.lay_second.result c.lay_second.ensures.refusal _ c.lay_second.ensures.laid c.in-Ok-lay_second.is c.compare.ensures

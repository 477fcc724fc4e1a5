-- `formula_call::formula_rule` meets its contract: the buffers, the formula tried, what is told of it, and zeros. Assumes nothing.
use lib.ListN.{length}
use Rattle.formula_slots.specs.Slots.{LentRoom}
use Rattle.formula_run.proofs.Rooms.{room_kept}
use Rattle.formula_call.specs.Calling.{LongEnough}
use Rattle.formula_call.proofs.Lent.{all_long, lent_room}
use Rattle.formula_call.proofs.Answers.{call_short, call-told}
use Rattle.formula_call.proofs.formula_rule.Goals as goal

lent : (c : goal.After-try_formula-arg-4-1) → LentRoom c.args.stack.now c.args.spare.now c.args.classes.now c.args.scratch.now
lent c =
    let a = c.args in
    lent_room a.out.now a.stack.now a.spare.now a.classes.now a.scratch.now c.lent_short.result c.lent_short.ensures c.if-lent_short.false

lent-2 : (c : goal.After-told-arg-1) → LentRoom c.args.stack.now c.args.spare.now c.args.classes.now c.args.scratch.now
lent-2 c =
    let a = c.args in
    lent_room a.out.now a.stack.now a.spare.now a.classes.now a.scratch.now c.lent_short.result c.lent_short.ensures c.if-lent_short.false

rooms : (c : goal.After-told-arg-1) → LongEnough (length c.args.out.now) (length c.args.stack.now) (length c.args.spare.now) (length c.args.classes.now) (length c.args.scratch.now)
rooms c =
    let a = c.args in
    all_long a.out.now a.stack.now a.spare.now a.classes.now a.scratch.now c.lent_short.result c.lent_short.ensures c.if-lent_short.false

pub returns-then-lent_short : goal.returns-then-lent_short
returns-then-lent_short c =
    let a = c.args in
    call_short a.out.now a.stack.now a.spare.now a.classes.now a.scratch.now c.lent_short.result c.lent_short.ensures c.if-lent_short.true

pub try_formula-ran-requires : goal.try_formula-ran-requires
try_formula-ran-requires c = lent c

pub told-answer-requires : goal.told-answer-requires
told-answer-requires c = record {
  stack_size_in_bounds = (room_kept c.try_formula-ran.ensures.lengths (lent-2 c)).stack_room;
  rule_size_in_bounds = (rooms c).out_long;
}

pub returns : goal.returns
returns c =
    let a = c.args in
    call-told a.out.now a.stack.now a.spare.now a.classes.now a.scratch.now c.lent_short.result c.lent_short.ensures c.if-lent_short.false
    c.try_formula-ran.result c.try_formula-ran.ensures.tried c.told-answer.ensures c.try_formula-ran.ensures.lengths c.clear_lent.ensures

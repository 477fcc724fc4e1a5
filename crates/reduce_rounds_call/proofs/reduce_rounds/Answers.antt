-- `reduce_rounds_call::reduce_rounds` meets its contract: a short buffer is refused first, then the check's refusal is handed on; then a limit above
-- 64, then a rule that is not strong; of a strong rule the blocks are given. Assumes nothing.
use borrow.Author.Tests.{not-true, not-false}
use Rattle.rule_check.proofs.Calls.{checked_rule, checked_refused}
use Rattle.mark_strong.proofs.Calling.{checked_table, checked_lawful, decide_place, decided_room}
use Rattle.reduce_rounds_call.proofs.Calling.{blocks_short, rounds_refused, rounds_limit, rounds_weak, rounds_strong}
use mathlib.Core.Bool.{not}
use mathlib.Core.Path.{ap}
use Rattle.reduce_rounds_call.proofs.reduce_rounds.Goals as goal

pub returns-then-blocks-lt-BLOCKS_SIZE : goal.returns-then-blocks-lt-BLOCKS_SIZE
returns-then-blocks-lt-BLOCKS_SIZE c = blocks_short _ _ _ _ c.if-blocks-lt-BLOCKS_SIZE.true

pub returns-in-Err : goal.returns-in-Err
returns-in-Err c =
    rounds_refused _ _ _ _ c.if-blocks-lt-BLOCKS_SIZE.false (checked_refused 1 _ _ _ _ c.check.ensures c.in-Err.is)

pub returns-then-limit-gt-MOST_ROUNDS : goal.returns-then-limit-gt-MOST_ROUNDS
returns-then-limit-gt-MOST_ROUNDS c =
    rounds_limit _ _ _ _ c.if-blocks-lt-BLOCKS_SIZE.false (checked_rule 1 _ _ _ _ c.check.ensures c.in-Ok.is) _ c.zero.ensures
    c.if-limit-gt-MOST_ROUNDS.true

pub decide-strong-requires : goal.decide-strong-requires
decide-strong-requires c =
    let p = checked_rule 1 _ _ _ _ c.check.ensures c.in-Ok.is in record {
      table = checked_table 1 _ _ p;
      decide_needs = decide_place 1 _ _ p;
    }

pub returns-then-not-strong : goal.returns-then-not-strong
returns-then-not-strong c =
    rounds_weak _ _ _ _ c.if-blocks-lt-BLOCKS_SIZE.false (checked_rule 1 _ _ _ _ c.check.ensures c.in-Ok.is) c.decide-strong.ensures
    c.if-limit-gt-MOST_ROUNDS.false _ c.zero-then-not-strong.ensures (not-true _ (ap not c.if-not-strong.true))

pub write_blocks-refined-requires : goal.write_blocks-refined-requires
write_blocks-refined-requires c =
    let p = checked_rule 1 _ _ _ _ c.check.ensures c.in-Ok.is in record {
      table = checked_table 1 _ _ p;
      lawful = checked_lawful 1 _ _ p;
      scratch_size_in_bounds = decided_room 1 _ _ p c.decide-strong.ensures;
      blocks_size_in_bounds = c.if-blocks-lt-BLOCKS_SIZE.false;
    }

pub returns : goal.returns
returns c =
    rounds_strong _ _ _ _ c.if-blocks-lt-BLOCKS_SIZE.false (checked_rule 1 _ _ _ _ c.check.ensures c.in-Ok.is) c.decide-strong.ensures
    c.if-limit-gt-MOST_ROUNDS.false c.write_blocks-refined.ensures (not-false _ (ap not c.if-not-strong.false)) _ c.zero-2.ensures

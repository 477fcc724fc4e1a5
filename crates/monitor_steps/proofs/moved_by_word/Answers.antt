-- `monitor_steps::moved_by_word` meets its contract: no letter moves nothing; a first letter on none gives its element, and the others multiply. Assumes
-- nothing.
use Prim.Native.Nat.{◌<◌}
use native.Mathlib.Omega.{arith}
use lib.ListN.{length}
use mir.Facts.{Fits-8_64}
use Rattle.theory.proofs.Words.{over_at}
use Rattle.rule_table.proofs.Facts.{image_place}
use Rattle.monitor_state.proofs.Numbers.{good_element}
use Rattle.monitor_steps.proofs.Moving.{image_below}
use Rattle.monitor_steps.proofs.WordMoving.{no_letter, word_from_none, word_from_element}
use Rattle.monitor_steps.proofs.moved_by_word.Goals as goal

pub returns-then-word-eq0 : goal.returns-then-word-eq0
returns-then-word-eq0 c =
    let whole = no_letter c.requires.table c.requires.good_monitor c.args.word.now c.if-word-eq0.true in record { moved = whole.0; good = whole.1 }

pub overflow_cast-word : goal.overflow_cast-word
overflow_cast-word c = Fits-8_64 (c.type_inv.word _)

pub image-first-requires : goal.image-first-requires
image-first-requires c =
    image_place c.requires.table (over_at _ c.args.word.now c.requires.over 0 (omega arith))

pub along-next-requires : goal.along-next-requires
along-next-requires c =
    let some : 0 < length c.args.word.now = omega arith in record {
      table = c.requires.table;
      since_lt_n = image_below c.requires.table (over_at _ c.args.word.now c.requires.over 0 some) c.image-first.ensures;
      over = c.requires.over;
      from_in_bounds = some;
    }

pub returns-then-since-eq64 : goal.returns-then-since-eq64
returns-then-since-eq64 c =
    let whole = word_from_none c.requires.table c.requires.good_monitor c.args.word.now c.if-since-eq64.true (omega arith) c.requires.over c.image-first.ensures c.along-next.ensures in record { moved = whole.0; good = whole.1 }

pub along-next-requires-2 : goal.along-next-requires-2
along-next-requires-2 c = record {
  table = c.requires.table;
  since_lt_n = good_element c.requires.good_monitor.since_good c.if-since-eq64.false;
  over = c.requires.over;
  from_in_bounds = omega arith;
}

pub returns : goal.returns
returns c =
    let whole = word_from_element c.requires.table c.requires.good_monitor c.args.word.now c.along-next-2.ensures in record { moved = whole.0; good = whole.1 }

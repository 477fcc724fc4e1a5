-- The bytes of an entry behind the letters' are an element, an entry before it, and a letter; the loop holds the answers of the
-- entries that were passed. The measure is the number of entries left. Assumes nothing.
use native.Mathlib.Omega.{arith}
use mir.Facts.{Fits-8_64}
use Rattle.rule_table.proofs.Facts.{image_place}
use Rattle.rule_letter_columns.proofs.Entries.{letter_small}
use Rattle.rule_along_words.proofs.Entries.{WordEntry, place_column, parent_small, word_entry}
use Rattle.rule_along_words.proofs.Passed.{column_along, column_inside, words_start, words_next, words_all}
use mathlib.Core.Bool.{not}
use mathlib.Core.Path.{ap}
use Rattle.rule_along_words.proofs.words_associate.Goals as goal

-- what is known of the entry once its letter's element is there
entry_known : (c : goal.After-image-h) → let args = c.args in WordEntry args.queue.now args.n args.letters c.loop-i.i c.image-h.result
entry_known c =
    word_entry c.requires.all_found c.requires.letter_entries c.requires.table c.loop-i.invariant.1 c.loop-i-test.true c.image-h.ensures

-- what is known of the entry once its letter's element is there
entry_known_2 : (c : goal.After-shared_slice_known-in-loop-i-5-1-unread) → let args = c.args in WordEntry args.queue.now args.n args.letters c.loop-i.i c.image-h.result
entry_known_2 c =
    word_entry c.requires.all_found c.requires.letter_entries c.requires.table c.loop-i.invariant.1 c.loop-i-test.true c.image-h.ensures

-- what is known of the entry once its letter's element is there
entry_known_3 : (c : goal.After-shared_slice_known-in-loop-i-5-1) → let args = c.args in WordEntry args.queue.now args.n args.letters c.loop-i.i c.image-h.result
entry_known_3 c =
    word_entry c.requires.all_found c.requires.letter_entries c.requires.table c.loop-i.invariant.1 c.loop-i-test.true c.image-h.ensures

-- what is known of the entry once its letter's element is there
entry_known_4 : (c : goal.Else-not-along) → let args = c.args in WordEntry args.queue.now args.n args.letters c.loop-i.i c.image-h.result
entry_known_4 c =
    word_entry c.requires.all_found c.requires.letter_entries c.requires.table c.loop-i.invariant.1 c.loop-i-test.true c.image-h.ensures

pub loop-i-init : goal.loop-i-init
loop-i-init c = (words_start _, omega arith)

pub overflow_add-from : goal.overflow_add-from
overflow_add-from c = omega (arith, c.requires.all_found.few, c.requires.table.small)

pub bounds-queue-i : goal.bounds-queue-i
bounds-queue-i c =
    omega (arith, c.requires.all_found.room, c.requires.all_found.few, c.requires.table.small)

pub overflow_cast-from : goal.overflow_cast-from
overflow_cast-from c = Fits-8_64 (c.type_inv.queue _)

pub overflow_sub-p : goal.overflow_sub-p
overflow_sub-p c = c.requires.letter_entries.later c.loop-i.i c.loop-i.invariant.1 c.loop-i-test.true

pub bounds-queue-from : goal.bounds-queue-from
bounds-queue-from c =
    omega (arith, parent_small c.requires.all_found c.loop-i.i c.loop-i-test.true, c.requires.all_found.room, c.requires.all_found.few, c.requires.table.small)

pub overflow_cast-p : goal.overflow_cast-p
overflow_cast-p c = Fits-8_64 (c.type_inv.queue _)

pub bounds-queue-i-in-loop-i : goal.bounds-queue-i-in-loop-i
bounds-queue-i-in-loop-i c =
    omega (arith, c.requires.all_found.room, c.requires.all_found.few, c.requires.table.small)

pub overflow_cast-s : goal.overflow_cast-s
overflow_cast-s c = Fits-8_64 (c.type_inv.queue _)

pub overflow_add-letter : goal.overflow_add-letter
overflow_add-letter c =
    omega (arith, c.requires.all_found.few, c.requires.table.small)

pub bounds-queue-i-in-loop-i-2 : goal.bounds-queue-i-in-loop-i-2
bounds-queue-i-in-loop-i-2 c =
    omega (arith, c.requires.all_found.room, c.requires.all_found.few, c.requires.table.small)

pub overflow_cast-letter : goal.overflow_cast-letter
overflow_cast-letter c = Fits-8_64 (c.type_inv.queue _)

pub image-h-requires : goal.image-h-requires
image-h-requires c =
    image_place c.requires.table (letter_small c.requires.all_found c.loop-i.i c.loop-i-test.true)

pub overflow_add-place : goal.overflow_add-place
overflow_add-place c =
    omega (arith, (entry_known c).image_inside, c.requires.table.small)

pub bounds-queue-h : goal.bounds-queue-h
bounds-queue-h c =
    omega (arith, (entry_known_2 c).image_inside, c.requires.all_found.room, c.requires.table.small)

pub overflow_cast-place : goal.overflow_cast-place
overflow_cast-place c = Fits-8_64 (c.type_inv.queue _)

pub overflow_sub-place : goal.overflow_sub-place
overflow_sub-place c = (entry_known_3 c).place.above

pub along-requires : goal.along-requires
along-requires c =
    let entry = entry_known_3 c in
    let column = place_column c.requires.letter_columns entry.place in record {
      table = c.requires.table;
      column_inside = column_inside c.requires.table column entry.image_inside (omega (arith, entry.place.below, entry.few));
      p_lt_n = (entry.parent_inside, entry.inside);
    }

pub returns-then-not-along : goal.returns-then-not-along
returns-then-not-along c = tt

pub loop-i-preserved : goal.loop-i-preserved
loop-i-preserved c =
    let entry = entry_known_4 c in
    let along = column_along c.requires.table (place_column c.requires.letter_columns entry.place) entry.parent_inside c.along.result c.along.ensures (ap not c.if-not-along.false) in
    (words_next c.loop-i.invariant.0 c.image-h.ensures along, omega arith)

pub returns : goal.returns
returns c = words_all c.loop-i.invariant.0 c.loop-i-test.false

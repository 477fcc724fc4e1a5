-- `monitor_steps::along` meets its contract: each turn multiplies by one letter's element. Assumes nothing.
use Rattle.std.proofs.Common.{◌+◌, ◌<◌, ◌≡◌, length, arith}
use native.Mathlib.Nat.{add-zero}
use Rattle.rule_table.proofs.Facts.{table_place, image_place}
use Rattle.monitor_steps.proofs.Moving.{image_below}
use Rattle.monitor_steps.proofs.WordMoving.{going_start, going_letter, going_next, going_all, letters_many, letter_item}
use Rattle.monitor_steps.proofs.along.Goals as goal

pub loop-letter-init : goal.loop-letter-init
loop-letter-init c = rw (add-zero c.args.from) (going_start c.requires.table c.requires.over c.requires.since_lt_n)

pub image-requires : goal.image-requires
image-requires c =
    let g = c.loop-letter.invariant in
    let at : c.args.from + c.loop-letter.letter-index < length c.args.word.now =
    omega (arith, c.loop-letter-test.true, letters_many c.args.word.now c.args.from c.requires.from_in_bounds, c.requires.from_in_bounds) in
    rw (letter_item c.args.word.now c.args.from c.requires.from_in_bounds c.loop-letter.letter-index at)
    (image_place g.table (going_letter g.table g at))

pub product-value-requires : goal.product-value-requires
product-value-requires c =
    let g = c.loop-letter.invariant in
    let at : c.args.from + c.loop-letter.letter-index < length c.args.word.now =
    omega (arith, c.loop-letter-test.true, letters_many c.args.word.now c.args.from c.requires.from_in_bounds, c.requires.from_in_bounds) in
    table_place g.table g.below
    (image_below g.table (going_letter g.table g at)
    (rw (letter_item c.args.word.now c.args.from c.requires.from_in_bounds c.loop-letter.letter-index at) at c.image.ensures))

pub loop-letter-preserved : goal.loop-letter-preserved
loop-letter-preserved c =
    let g = c.loop-letter.invariant in
    let at : c.args.from + c.loop-letter.letter-index < length c.args.word.now =
    omega (arith, c.loop-letter-test.true, letters_many c.args.word.now c.args.from c.requires.from_in_bounds, c.requires.from_in_bounds) in
    rw (let e : c.args.from + (c.loop-letter.letter-index + 1) ≡ c.args.from + c.loop-letter.letter-index + 1 = omega arith in e)
    (going_next g.table g at
    (rw (letter_item c.args.word.now c.args.from c.requires.from_in_bounds c.loop-letter.letter-index at) at c.image.ensures) c.product-value.ensures)

pub returns : goal.returns
returns c =
    let g = c.loop-letter.invariant in
    going_all g.table g
    (omega (arith, c.loop-letter-test.false, letters_many c.args.word.now c.args.from c.requires.from_in_bounds, c.requires.from_in_bounds))

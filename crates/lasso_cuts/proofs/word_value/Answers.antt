-- The loop holds the value of the letters that were passed, and multiplies it by the next letter's element. Assumes nothing.
use Rattle.std.proofs.Common.{◌+◌, ◌<◌, length, arith}
use mir.Facts.{Fits-8_64}
use Rattle.rule_table.proofs.Facts.{table_place}
use Rattle.lasso_cuts.proofs.Passes.{letter_place_lem, letter_inside, begun_start, begun_next, begun_inside, begun_all, letters_many, letter_item}
use Rattle.lasso_cuts.proofs.word_value.Goals as goal

pub bounds-w-0 : goal.bounds-w-0
bounds-w-0 c = c.requires.call_word.some

pub overflow_cast-w : goal.overflow_cast-w
overflow_cast-w c = Fits-8_64 (c.type_inv.w _)

pub image-s-requires : goal.image-s-requires
image-s-requires c =
    letter_place_lem (record { table = c.requires.table; law = c.requires.lawful; word = c.requires.call_word }) 0 c.requires.call_word.some

pub loop-letter-init : goal.loop-letter-init
loop-letter-init c =
    begun_start (record { table = c.requires.table; law = c.requires.lawful; word = c.requires.call_word }) c.image-s.ensures

pub image-h-requires : goal.image-h-requires
image-h-requires c =
    let at : c.loop-letter.letter-index + 1 < length c.args.w.now =
    omega (arith, c.loop-letter-test.true, letters_many c.args.w.now, c.requires.call_word.some) in
    rw (letter_item c.args.w.now c.loop-letter.letter-index at) (letter_place_lem c.loop-letter.invariant.reading _ at)

pub product-s-requires : goal.product-s-requires
product-s-requires c =
    let b = c.loop-letter.invariant in
    let at : c.loop-letter.letter-index + 1 < length c.args.w.now =
    omega (arith, c.loop-letter-test.true, letters_many c.args.w.now, c.requires.call_word.some) in
    table_place b.reading.table (begun_inside b)
    (letter_inside b.reading _ _ at (rw (letter_item c.args.w.now c.loop-letter.letter-index at) at c.image-h.ensures))

pub loop-letter-preserved : goal.loop-letter-preserved
loop-letter-preserved c =
    let at : c.loop-letter.letter-index + 1 < length c.args.w.now =
    omega (arith, c.loop-letter-test.true, letters_many c.args.w.now, c.requires.call_word.some) in
    begun_next c.loop-letter.invariant at
    (rw (letter_item c.args.w.now c.loop-letter.letter-index at) at c.image-h.ensures) c.product-s.ensures

pub returns : goal.returns
returns c = begun_all c.loop-letter.invariant (omega (arith, c.loop-letter-test.false, letters_many c.args.w.now))

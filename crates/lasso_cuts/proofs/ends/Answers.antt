-- The loop holds the value of the letters from place i on and has stored the values of the ends from there on; all other bytes
-- keep their values. Assumes nothing.
use mathlib.Core.Path.{refl}
use native.Mathlib.Omega.{arith}
use lib.ListN.{length}
use mir.Facts.{Fits-8_64}
use Rattle.rule_table.proofs.Facts.{table_place}
use Rattle.lasso_turns.specs.Cuts.{KeptAround}
use Rattle.lasso_cuts.proofs.Passes.{letter_place_lem, letter_inside, ended_inside}
use Rattle.lasso_cuts.proofs.Tables.{ends_start, ends_next, ends_values, ends_others}
use Rattle.lasso_cuts.proofs.ends.Goals as goal

-- what is kept from the entry to the end of the loop
others : (c : goal.After-loop-i)
    → KeptAround
    c.args.scratch.now
    c.loop-i.scratch
    c.args.base
    (length c.args.w.now)
others c =
    let b = c.loop-i.invariant in
    ends_others _ _ (omega (arith, b.ended.reading.word.some)) b (omega arith)

pub overflow_sub-last : goal.overflow_sub-last
overflow_sub-last c = omega (arith, c.requires.call_word.some)

pub bounds-w-last : goal.bounds-w-last
bounds-w-last c = omega (arith, c.requires.call_word.some)

pub overflow_cast-w : goal.overflow_cast-w
overflow_cast-w c = Fits-8_64 (c.type_inv.w _)

pub image-s-requires : goal.image-s-requires
image-s-requires c =
    letter_place_lem (record { table = c.requires.table; law = c.requires.lawful; word = c.requires.call_word }) _ (omega (arith, c.requires.call_word.some))

pub bounds-scratch-base : goal.bounds-scratch-base
bounds-scratch-base c = omega (arith, c.requires.call_word.some)

pub loop-i-init : goal.loop-i-init
loop-i-init c =
    ends_start c.args.scratch.now (record { table = c.requires.table; law = c.requires.lawful; word = c.requires.call_word }) c.requires.w_in_bounds refl c.image-s.ensures

pub overflow_cast-w-in-loop-i : goal.overflow_cast-w-in-loop-i
overflow_cast-w-in-loop-i c = Fits-8_64 (c.type_inv.w _)

pub image-h-requires : goal.image-h-requires
image-h-requires c = letter_place_lem c.loop-i.invariant.ended.reading _ (omega arith)

pub product-s-requires : goal.product-s-requires
product-s-requires c =
    let b = c.loop-i.invariant.ended in
    table_place b.reading.table (letter_inside b.reading _ _ (omega arith) c.image-h.ensures) (ended_inside b)

pub loop-i-preserved : goal.loop-i-preserved
loop-i-preserved c =
    ends_next c.loop-i.invariant c.loop-i-test.true
    c.image-h.ensures c.product-s.ensures

pub shape_of-scratch : goal.shape_of-scratch
shape_of-scratch c = (others c).same_length

pub returns : goal.returns
returns c = record {
  values = ends_values c.loop-i.invariant (omega arith);
  others = others c;
}

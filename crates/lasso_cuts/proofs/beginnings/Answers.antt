-- The loop holds the value of the first j letters and has stored the values of the beginnings up to it; all other bytes keep
-- their values. Assumes nothing.
use mathlib.Core.Path.{refl}
use native.Mathlib.Omega.{arith}
use lib.ListN.{length}
use mir.Facts.{Fits-8_64}
use Rattle.rule_table.proofs.Facts.{table_place}
use Rattle.lasso_turns.specs.Cuts.{KeptAround}
use Rattle.lasso_cuts.proofs.Passes.{letter_place_lem, letter_inside, begun_inside, begun_all}
use Rattle.lasso_cuts.proofs.Tables.{beginnings_start, beginnings_next, beginnings_values, beginnings_others}
use Rattle.lasso_cuts.proofs.beginnings.Goals as goal

-- what is kept from the entry to the end of the loop
others : (c : goal.After-loop-j)
    → KeptAround
    c.args.scratch.now
    c.loop-j.scratch
    c.args.base
    (length c.args.w.now)
others c = beginnings_others _ c.loop-j.invariant.0 (omega arith)

pub bounds-w-0 : goal.bounds-w-0
bounds-w-0 c = c.requires.call_word.some

pub overflow_cast-w : goal.overflow_cast-w
overflow_cast-w c = Fits-8_64 (c.type_inv.w _)

pub image-s-requires : goal.image-s-requires
image-s-requires c =
    letter_place_lem (record { table = c.requires.table; law = c.requires.lawful; word = c.requires.call_word }) 0 c.requires.call_word.some

pub loop-j-init : goal.loop-j-init
loop-j-init c =
    (beginnings_start c.args.scratch.now (record { table = c.requires.table; law = c.requires.lawful; word = c.requires.call_word }) c.requires.w_in_bounds c.image-s.ensures, refl)

pub overflow_cast-w-in-loop-j : goal.overflow_cast-w-in-loop-j
overflow_cast-w-in-loop-j c = Fits-8_64 (c.type_inv.w _)

pub image-h-requires : goal.image-h-requires
image-h-requires c = letter_place_lem c.loop-j.invariant.0.begun.reading _ (omega arith)

pub product-s-requires : goal.product-s-requires
product-s-requires c =
    let b = c.loop-j.invariant.0.begun in
    table_place b.reading.table (begun_inside b) (letter_inside b.reading _ _ (omega arith) c.image-h.ensures)

pub loop-j-preserved : goal.loop-j-preserved
loop-j-preserved c = (
  beginnings_next c.loop-j.invariant.0 (omega arith) c.image-h.ensures c.product-s.ensures,
  refl,
)

pub shape_of-scratch : goal.shape_of-scratch
shape_of-scratch c = (others c).same_length

pub returns : goal.returns
returns c = record {
  whole = begun_all c.loop-j.invariant.0.begun (omega arith);
  values = beginnings_values c.loop-j.invariant.0 (omega arith);
  others = others c;
}

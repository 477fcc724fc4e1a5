-- The loop holds that the rows so far have their numbers. Assumes nothing.
use native.Mathlib.Omega.{arith}
use Rattle.scratch.proofs.Rows.{rows_none}
use Rattle.word_table.proofs.Rows.{steps_rows_now, products_more, products_all}
use Rattle.word_table.proofs.lay_products.Goals as goal

pub loop-i-init : goal.loop-i-init
loop-i-init c = (rows_none _ _ _ _, omega arith)

pub lay_products_of-requires : goal.lay_products_of-requires
lay_products_of-requires c = record {
  table_needs = steps_rows_now c.requires c.loop-i.invariant.0 c.loop-i-test.true;
  i_lt_count = c.loop-i-test.true;
}

pub loop-i-preserved : goal.loop-i-preserved
loop-i-preserved c =
    (products_more c.requires c.loop-i.invariant.0 c.loop-i-test.true c.lay_products_of.ensures, omega arith)

pub shape_of-scratch : goal.shape_of-scratch
shape_of-scratch c = c.loop-i.invariant.0.kept.same_length

pub returns : goal.returns
returns c = products_all c.requires c.loop-i.invariant.0 c.loop-i.invariant.1 c.loop-i-test.false

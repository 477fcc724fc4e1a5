-- The loop holds that the products so far have their numbers. Assumes nothing.
use native.Mathlib.Omega.{arith}
use Rattle.scratch.proofs.Rows.{filled_none, filled_all}
use Rattle.word_table.proofs.Rows.{row_small, steps_now, row_now, product_room, product_more}
use Rattle.word_table.proofs.lay_products_of.Goals as goal

pub overflow_mul-base : goal.overflow_mul-base
overflow_mul-base c = omega (arith, row_small c.requires.table_needs c.requires.i_lt_count)

pub overflow_add-base : goal.overflow_add-base
overflow_add-base c = omega (arith, row_small c.requires.table_needs c.requires.i_lt_count)

pub loop-j-init : goal.loop-j-init
loop-j-init c = (filled_none _ _, omega arith)

pub product_number-number-requires : goal.product_number-number-requires
product_number-number-requires c = record {
  table_needs = steps_now c.requires.table_needs c.requires.i_lt_count c.loop-j.invariant.0 c.loop-j-test.true;
  i_lt_count = (omega arith, omega arith);
  row_laid = row_now c.requires.table_needs c.requires.i_lt_count c.loop-j.invariant.0 c.loop-j-test.true;
}

pub overflow_add-scratch : goal.overflow_add-scratch
overflow_add-scratch c = omega (arith, row_small c.requires.table_needs c.requires.i_lt_count, c.requires.table_needs.few)

pub bounds-scratch-base : goal.bounds-scratch-base
bounds-scratch-base c = product_room c.requires.table_needs c.requires.i_lt_count c.loop-j.invariant.0 c.loop-j-test.true

pub loop-j-preserved : goal.loop-j-preserved
loop-j-preserved c = (product_more c.requires.table_needs c.requires.i_lt_count c.loop-j.invariant.0 c.loop-j-test.true c.product_number-number.ensures, omega arith)

pub shape_of-scratch : goal.shape_of-scratch
shape_of-scratch c = c.loop-j.invariant.0.kept.same_length

pub returns : goal.returns
returns c = filled_all c.loop-j.invariant.1 c.loop-j-test.false c.loop-j.invariant.0

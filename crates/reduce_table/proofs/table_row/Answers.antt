-- `reduce_table::table_row` meets its contract: the pairs (i, j) that were passed have their products. Assumes nothing.
use native.Mathlib.Omega.{arith}
use Rattle.scratch.proofs.Rows.{pair_small, filled_none, filled_more, filled_all}
use Rattle.reduce_table.proofs.Blocks.{table_inside, blocks_kept, product_stored}
use Rattle.reduce_table.proofs.table_row.Goals as goal

pub loop-j-init : goal.loop-j-init
loop-j-init c = (filled_none _ _, omega arith)

pub block_product-number-requires : goal.block_product-number-requires
block_product-number-requires c = record {
  table = c.requires.table;
  blocks_needs = blocks_kept c.loop-j.invariant.0.kept (omega arith) c.requires.blocks_needs;
  i_lt_c = (c.requires.i_lt_c, c.loop-j-test.true);
}

pub overflow_mul-scratch : goal.overflow_mul-scratch
overflow_mul-scratch c =
    omega (arith, pair_small _ _ _ c.requires.blocks_needs.small c.requires.i_lt_c c.loop-j-test.true)

pub overflow_add-scratch : goal.overflow_add-scratch
overflow_add-scratch c =
    omega (arith, pair_small _ _ _ c.requires.blocks_needs.small c.requires.i_lt_c c.loop-j-test.true)

pub overflow_add-scratch-in-loop-j : goal.overflow_add-scratch-in-loop-j
overflow_add-scratch-in-loop-j c =
    omega (arith, pair_small _ _ _ c.requires.blocks_needs.small c.requires.i_lt_c c.loop-j-test.true)

pub bounds-scratch-i : goal.bounds-scratch-i
bounds-scratch-i c =
    omega
    (arith, pair_small _ _ _ c.requires.blocks_needs.small c.requires.i_lt_c c.loop-j-test.true, c.requires.blocks_needs.room, c.loop-j.invariant.0.kept.same_length)

pub loop-j-preserved : goal.loop-j-preserved
loop-j-preserved c =
    let kept = c.loop-j.invariant.0.kept in
    let inside = table_inside c.requires.blocks_needs _ _ c.requires.i_lt_c c.loop-j-test.true kept in (
      filled_more (omega arith) inside c.loop-j.invariant.0
          (product_stored kept (omega arith) c.requires.table c.requires.blocks_needs _ _ c.requires.i_lt_c c.loop-j-test.true c.block_product-number.ensures),
      omega arith,
    )

pub shape_of-scratch : goal.shape_of-scratch
shape_of-scratch c = c.loop-j.invariant.0.kept.same_length

pub returns : goal.returns
returns c = filled_all c.loop-j.invariant.1 c.loop-j-test.false c.loop-j.invariant.0

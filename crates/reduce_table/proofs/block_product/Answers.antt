-- `reduce_table::block_product` meets its contract: the leaders are elements, and so is their product. Assumes nothing.
use Prim.Native.Nat.{◌+◌}
use mathlib.Core.Path.{ap}
use native.Mathlib.Omega.{arith}
use Rattle.scratch.specs.Map.{leaders_base}
use Rattle.rule_table.proofs.Facts.{table_place}
use Rattle.reduce_numbering.specs.Steps.{number_at}
use Rattle.reduce_table.specs.Layout.{block_product}
use Rattle.reduce_table.proofs.Blocks.{product_small}
use Rattle.reduce_table.proofs.block_product.Goals as goal

pub overflow_cast-a : goal.overflow_cast-a
overflow_cast-a c = omega (arith, c.type_inv.scratch (leaders_base + c.args.i))

pub overflow_cast-b : goal.overflow_cast-b
overflow_cast-b c = omega (arith, c.type_inv.scratch (leaders_base + c.args.j))

pub product-s-requires : goal.product-s-requires
product-s-requires c =
    table_place c.requires.table (c.requires.blocks_needs.leaders _ c.requires.i_lt_c.0) (c.requires.blocks_needs.leaders _ c.requires.i_lt_c.1)

pub overflow_add-result : goal.overflow_add-result
overflow_add-result c =
    omega (arith, c.product-s.ensures, product_small c.requires.table c.requires.blocks_needs _ _ c.requires.i_lt_c.0 c.requires.i_lt_c.1)

pub bounds-scratch-s : goal.bounds-scratch-s
bounds-scratch-s c =
    omega (arith, c.product-s.ensures, product_small c.requires.table c.requires.blocks_needs _ _ c.requires.i_lt_c.0 c.requires.i_lt_c.1, c.requires.blocks_needs.room)

pub returns : goal.returns
unfolding block_product
returns c =
    ap (number_at c.args.scratch.now) c.product-s.ensures

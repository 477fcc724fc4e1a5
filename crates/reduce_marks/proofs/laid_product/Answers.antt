-- `reduce_marks::laid_product` meets its contract: the pair has its place in the table. Assumes nothing.
use Prim.Native.Nat.{◌+◌, ◌*◌}
use mathlib.Core.Path.{refl}
use native.Mathlib.Omega.{arith}
use Rattle.scratch.specs.Map.{laid_products_base}
use Rattle.reduce_table.specs.Layout.{laid_product}
use Rattle.scratch.proofs.Rows.{pair_small}
use Rattle.reduce_marks.proofs.laid_product.Goals as goal

pub overflow_mul-result : goal.overflow_mul-result
overflow_mul-result c = omega (arith, pair_small _ _ _ c.requires.blocks_needs.small c.requires.i_lt_c.0 c.requires.i_lt_c.1)

pub overflow_add-result : goal.overflow_add-result
overflow_add-result c = omega (arith, pair_small _ _ _ c.requires.blocks_needs.small c.requires.i_lt_c.0 c.requires.i_lt_c.1)

pub overflow_add-result-2 : goal.overflow_add-result-2
overflow_add-result-2 c = omega (arith, pair_small _ _ _ c.requires.blocks_needs.small c.requires.i_lt_c.0 c.requires.i_lt_c.1)

pub bounds-scratch-i : goal.bounds-scratch-i
bounds-scratch-i c = omega (arith, pair_small _ _ _ c.requires.blocks_needs.small c.requires.i_lt_c.0 c.requires.i_lt_c.1, c.requires.blocks_needs.room)

pub overflow_cast-result : goal.overflow_cast-result
overflow_cast-result c = omega (arith, c.type_inv.scratch (laid_products_base + (c.args.i * c.args.c + c.args.j)))

pub returns : goal.returns
unfolding laid_product
returns c = refl

-- `confirm_map::products_from` meets its contract: the products with the elements that were passed are carried over. Assumes nothing.
use native.Mathlib.Omega.{arith}
use Rattle.rule_table.proofs.Facts.{table_place, product_below}
use Rattle.finite.proofs.Each.{each_none, each_more, each_all, each_not}
use Rattle.confirm_map.proofs.Mapping.{mapped_below, product_carried, product_differs}
use Rattle.confirm_map.proofs.products_from.Goals as goal

pub mapped-a-requires : goal.mapped-a-requires
mapped-a-requires c = omega (arith, c.requires.map_needs.bytes)

pub loop-t-init : goal.loop-t-init
loop-t-init c = each_none

pub mapped-b-requires : goal.mapped-b-requires
mapped-b-requires c =
    omega (arith, c.requires.map_needs.bytes)

pub product-there-requires : goal.product-there-requires
product-there-requires c =
    table_place c.requires.map_needs.second_is_table (mapped_below c.requires.map_needs c.requires.s_lt_n1 c.mapped-a.ensures) (mapped_below c.requires.map_needs c.loop-t-test.true c.mapped-b.ensures)

pub product-here-requires : goal.product-here-requires
product-here-requires c =
    table_place c.requires.map_needs.first_is_table c.requires.s_lt_n1 c.loop-t-test.true

pub mapped-requires : goal.mapped-requires
mapped-requires c =
    omega (arith, c.requires.map_needs.bytes, product_below c.requires.map_needs.first_is_table c.requires.s_lt_n1 c.loop-t-test.true c.product-here.ensures)

pub returns-then-mapped-there : goal.returns-then-mapped-there
returns-then-mapped-there c =
    each_not c.loop-t-test.true
    (product_differs c.mapped-a.ensures c.mapped-b.ensures c.product-there.ensures c.product-here.ensures c.mapped.ensures c.if-mapped-there.true)

pub loop-t-preserved : goal.loop-t-preserved
loop-t-preserved c =
    each_more c.loop-t.invariant
    (product_carried c.mapped-a.ensures c.mapped-b.ensures c.product-there.ensures c.product-here.ensures c.mapped.ensures c.if-mapped-there.false)

pub returns : goal.returns
returns c = each_all c.loop-t.invariant c.loop-t-test.false

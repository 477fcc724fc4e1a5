-- `pair_table::pair_product` meets its contract: the halves are elements, and so are their products. Assumes nothing.
use mathlib.Core.Path.{◌∙◌}
use mir.Facts.{Fits-8_64}
use Rattle.rule_table.proofs.Facts.{table_place}
use Rattle.pair_table.proofs.Kept.{product_number_lem, product_numbered}
use Rattle.pair_table.proofs.pair_product.Goals as goal

pub overflow_cast-a : goal.overflow_cast-a
overflow_cast-a c = Fits-8_64 (c.type_inv.scratch _)

pub overflow_cast-b : goal.overflow_cast-b
overflow_cast-b c = Fits-8_64 (c.type_inv.scratch _)

pub overflow_cast-c : goal.overflow_cast-c
overflow_cast-c c = Fits-8_64 (c.type_inv.scratch _)

pub overflow_cast-d : goal.overflow_cast-d
overflow_cast-d c = Fits-8_64 (c.type_inv.scratch _)

pub product-s-requires : goal.product-s-requires
product-s-requires c =
    table_place c.requires.two_tables.first_is_table (c.requires.pairs_needs.halves.lefts _ c.requires.i_lt_count.0) (c.requires.pairs_needs.halves.lefts _ c.requires.i_lt_count.1)

pub product-t-requires : goal.product-t-requires
product-t-requires c =
    table_place c.requires.two_tables.second_is_table (c.requires.pairs_needs.halves.rights _ c.requires.i_lt_count.0) (c.requires.pairs_needs.halves.rights _ c.requires.i_lt_count.1)

pub place_of-requires : goal.place_of-requires
place_of-requires c =
    product_numbered c.requires.two_tables c.requires.pairs_needs _ _ c.requires.i_lt_count.0 c.requires.i_lt_count.1 c.product-s.ensures c.product-t.ensures

pub returns : goal.returns
returns c =
    c.place_of.ensures
    ∙ product_number_lem c.requires.two_tables c.requires.pairs_needs _ _ c.requires.i_lt_count.0 c.requires.i_lt_count.1 c.product-s.ensures c.product-t.ensures

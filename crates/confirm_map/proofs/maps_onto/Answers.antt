-- `confirm_map::maps_onto` meets its contract: the four questions, the first that is answered by no or all. Assumes nothing.
use Rattle.confirm_map.proofs.Mapping.{not_inside, not_onto, not_products, maps_told, map_needs}
use mathlib.Core.Bool.{not}
use mathlib.Core.Path.{ap}
use Rattle.confirm_map.proofs.maps_onto.Goals as goal

pub inside-requires : goal.inside-requires
inside-requires c = c.requires.map_len

pub returns-then-not-inside : goal.returns-then-not-inside
returns-then-not-inside c = not_inside (ap not c.if-not-inside.true) c.inside.ensures

pub onto-requires : goal.onto-requires
onto-requires c = c.requires.map_len

pub returns-then-not-onto : goal.returns-then-not-onto
returns-then-not-onto c = not_onto (ap not c.if-not-onto.true) c.onto.ensures

pub products-requires : goal.products-requires
products-requires c =
    map_needs c.requires.table c.requires.table_2 c.requires.map_len c.inside.ensures (ap not c.if-not-inside.false)

pub returns-then-not-products : goal.returns-then-not-products
returns-then-not-products c = not_products (ap not c.if-not-products.true) c.products.ensures

pub images-requires : goal.images-requires
images-requires c =
    map_needs c.requires.table c.requires.table_2 c.requires.map_len c.inside.ensures (ap not c.if-not-inside.false)

pub returns : goal.returns
returns c =
    maps_told c.inside.ensures (ap not c.if-not-inside.false) c.onto.ensures
    (ap not c.if-not-onto.false) c.products.ensures (ap not c.if-not-products.false) c.images.ensures

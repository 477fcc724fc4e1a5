-- The value is none or an element. Assumes nothing.
use Rattle.next_list.proofs.Values.{behind_none, some_inside}
use Rattle.next_list.proofs.Tables.{product_place, product_behind}
use Rattle.next_list.proofs.value_behind.Goals as goal

pub returns-then-value-eq64 : goal.returns-then-value-eq64
returns-then-value-eq64 c = behind_none c.requires.table.small c.if-value-eq64.true c.requires.value_needs.inside

pub product-requires : goal.product-requires
product-requires c = product_place c.requires.table (some_inside c.requires.value_needs c.if-value-eq64.false) c.requires.value_needs.inside

pub returns : goal.returns
returns c =
    product_behind c.requires.table c.requires.value_needs c.if-value-eq64.false c.product.ensures

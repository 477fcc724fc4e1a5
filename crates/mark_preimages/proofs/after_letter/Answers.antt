-- `mark_preimages::after_letter` meets its contract: the two cases of the definition. Assumes nothing.
use Rattle.rule_table.proofs.Facts.{table_place}
use Rattle.formats.proofs.Tables.{image_below}
use Rattle.mark_preimages.proofs.Letters.{after_element, after_empty}
use Rattle.mark_preimages.proofs.after_letter.Goals as goal

pub product-requires : goal.product-requires
product-requires c =
    let table = c.requires.table in
    let below = image_below table c.requires.a_lt_k c.image-h.ensures in
    search table_place

pub returns-then-c-n : goal.returns-then-c-n
returns-then-c-n c =
    after_element c.requires.table c.requires.a_lt_k c.image-h.ensures c.if-c-n.true c.product.ensures

pub returns : goal.returns
returns c =
    after_empty c.requires.table c.requires.a_lt_k c.image-h.ensures c.if-c-n.false

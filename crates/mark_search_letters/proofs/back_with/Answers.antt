use Rattle.formats.proofs.Tables.{image_below}
use Rattle.mark_search_letters.proofs.Values.{product_place, back_element, back_none}
use Rattle.mark_search_letters.proofs.back_with.Goals as goal

pub product-requires : goal.product-requires
product-requires c = product_place _ _ _ c.requires.table (image_below c.requires.table c.requires.a_lt_k.0 c.image-h.ensures) c.if-y-n.true

pub returns-then-y-n : goal.returns-then-y-n
returns-then-y-n c = back_element _ _ _ c.requires.table _ c.if-y-n.true c.image-h.ensures c.product.ensures

pub returns : goal.returns
returns c = back_none _ _ _ c.requires.table _ c.if-y-n.false c.image-h.ensures

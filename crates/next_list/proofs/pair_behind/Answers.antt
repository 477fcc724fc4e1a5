-- Entry 0 is the empty word, and another has the values of its class. Assumes nothing.
use Rattle.next_list.proofs.Tables.{image_place, pair_zero, needs_before, whole_before, pair_more}
use Rattle.next_list.proofs.pair_behind.Goals as goal

pub image-element-requires : goal.image-element-requires
image-element-requires c = image_place c.requires.table c.requires.from_le_count.1

pub returns-then-from-eq0 : goal.returns-then-from-eq0
returns-then-from-eq0 c = pair_zero c.requires.table c.requires.lawful c.requires.listing c.requires.from_le_count.0 c.requires.from_le_count.1 c.image-element.ensures c.if-from-eq0.true

pub value_behind-behind-requires : goal.value_behind-behind-requires
value_behind-behind-requires c = record {
  table = c.requires.table;
  value_needs = needs_before c.requires.table c.requires.lawful c.requires.listing c.requires.from_le_count.0 c.requires.from_le_count.1 c.image-element.ensures c.if-from-eq0.false;
}

pub product-requires : goal.product-requires
product-requires c =
    whole_before c.requires.table c.requires.lawful c.requires.listing c.requires.from_le_count.0 c.requires.from_le_count.1 c.image-element.ensures c.if-from-eq0.false

pub returns : goal.returns
returns c =
    pair_more c.requires.table c.requires.lawful c.requires.listing c.requires.from_le_count.0 c.requires.from_le_count.1 c.image-element.ensures c.if-from-eq0.false c.value_behind-behind.ensures c.product.ensures

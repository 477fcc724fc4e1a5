-- `monitor_state::join` meets its contract: none adds nothing, and two elements are multiplied. Assumes nothing.
use mathlib.Core.Path.{◌∙◌}
use Rattle.rule_table.proofs.Facts.{table_place}
use Rattle.monitor_state.proofs.Numbers.{join_left, join_right, join_both, good_element}
use Rattle.monitor_state.proofs.join.Goals as goal

pub returns-then-a-eq64 : goal.returns-then-a-eq64
returns-then-a-eq64 c = join_left _ _ _ _ _ c.if-a-eq64.true

pub returns-then-b-eq64 : goal.returns-then-b-eq64
returns-then-b-eq64 c = join_right _ _ _ _ _ c.if-b-eq64.true

pub product-requires : goal.product-requires
product-requires c = table_place c.requires.table (good_element c.requires.good_number.0 c.if-a-eq64.false) (good_element c.requires.good_number.1 c.if-b-eq64.false)

pub returns : goal.returns
returns c = c.product.ensures ∙ join_both _ _ _ _ _ c.if-a-eq64.false c.if-b-eq64.false

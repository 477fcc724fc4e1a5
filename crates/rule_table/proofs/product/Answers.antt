-- The byte read is the one at 1 + (a·n + b), which lies within the bytes since a and b are below n. Assumes nothing.
use mathlib.Core.Path.{refl}
use mir.Facts.{Fits-8_64}
use Rattle.formats.specs.Table.{product_at}
use Rattle.rule_table.proofs.Places.{row_fits, entry_fits, place_fits, place_inside}
use Rattle.rule_table.proofs.product.Goals as goal

pub overflow_mul-result : goal.overflow_mul-result
overflow_mul-result c = search row_fits

pub overflow_add-result : goal.overflow_add-result
overflow_add-result c = search entry_fits

pub overflow_add-result-2 : goal.overflow_add-result-2
overflow_add-result-2 c = search place_fits

pub bounds-rule-a : goal.bounds-rule-a
bounds-rule-a c = search place_inside

pub overflow_cast-result : goal.overflow_cast-result
overflow_cast-result c = Fits-8_64 (c.type_inv.rule _)

pub returns : goal.returns
unfolding product_at
returns c = refl

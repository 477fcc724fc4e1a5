-- The byte read is the one at 2 + n·n + a, which the contract asks to lie within the bytes. Assumes nothing.
use mathlib.Core.Path.{refl}
use mir.Facts.{Fits-8_64}
use Rattle.formats.specs.Table.{image_at}
use Rattle.rule_table.proofs.image.Goals as goal

pub overflow_cast-result : goal.overflow_cast-result
overflow_cast-result c = Fits-8_64 (c.type_inv.rule _)

pub returns : goal.returns
unfolding image_at
returns c = refl

-- The letter's element after entry 0, else the product of the entry's element, one byte before its number, and the letter's:
-- the two cases of the definition. Assumes nothing.
use native.Mathlib.Omega.{arith}
use mir.Facts.{Fits-8_64}
use Rattle.rule_reach.proofs.Steps.{step_first, image_below, entry_below, step_later}
use Rattle.rule_reach.proofs.step.Goals as goal

pub returns-then-from-eq0 : goal.returns-then-from-eq0
returns-then-from-eq0 c = step_first c.requires c.image-h.ensures c.if-from-eq0.true

pub overflow_cast-queue : goal.overflow_cast-queue
overflow_cast-queue c = Fits-8_64 (c.type_inv.queue _)

pub product-requires : goal.product-requires
product-requires c =
    let place = c.requires in
    omega (arith, image_below place c.image-h.ensures, entry_below place c.if-from-eq0.false)

pub returns : goal.returns
returns c =
    step_later c.requires c.image-h.ensures c.if-from-eq0.false c.product.ensures

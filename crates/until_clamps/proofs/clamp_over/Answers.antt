-- Both ends are grades. Assumes nothing.
use native.Mathlib.Omega.{arith}
use Rattle.until_clamps.proofs.Clamps.{over_fits, over_is}
use Rattle.until_clamps.proofs.clamp_over.Goals as goal

pub overflow_mul-result : goal.overflow_mul-result
overflow_mul-result c = omega (arith, over_fits _ _ c.requires.0 c.clamped.ensures c.clamped-2.ensures)

pub overflow_add-result : goal.overflow_add-result
overflow_add-result c = omega (arith, over_fits _ _ c.requires.0 c.clamped.ensures c.clamped-2.ensures)

pub returns : goal.returns
returns c = over_is _ _ c.clamped.ensures c.clamped-2.ensures

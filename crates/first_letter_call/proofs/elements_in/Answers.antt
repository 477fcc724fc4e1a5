-- The loop holds that the letters before the one at hand have their elements. Assumes nothing.
use native.Mathlib.Omega.{arith}
use mathlib.Core.Path.{refl}
use Rattle.first_letter_call.proofs.Elements.{filled_start, filled_more, filled_all}
use Rattle.first_letter_call.proofs.elements_in.Goals as goal

pub loop-a-init : goal.loop-a-init
loop-a-init c = filled_start _ refl

pub element_in-requires : goal.element_in-requires
element_in-requires c = omega (arith, c.loop-a-test.true)

pub loop-a-preserved : goal.loop-a-preserved
loop-a-preserved c = filled_more c.loop-a.invariant c.loop-a-test.true c.element_in.ensures

pub returns : goal.returns
returns c = filled_all c.loop-a.invariant c.loop-a-test.false

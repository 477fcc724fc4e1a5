-- The loop holds that the letters before the one at hand have the element 0. Assumes nothing.
use native.Mathlib.Omega.{arith}
use Rattle.first_letter_call.proofs.Elements.{other_start, other_here, other_more, other_none}
use Rattle.first_letter_call.proofs.first_other.Goals as goal

pub loop-a-init : goal.loop-a-init
loop-a-init c = other_start

pub element_in-requires : goal.element_in-requires
element_in-requires c = omega (arith, c.loop-a-test.true, c.requires)

pub returns-then-element_in-eq1 : goal.returns-then-element_in-eq1
returns-then-element_in-eq1 c = other_here c.loop-a.invariant c.loop-a-test.true c.element_in.ensures c.if-element_in-eq1.true

pub loop-a-preserved : goal.loop-a-preserved
loop-a-preserved c = other_more c.loop-a.invariant c.loop-a-test.true c.element_in.ensures c.if-element_in-eq1.false

pub returns : goal.returns
returns c = other_none c.loop-a.invariant c.loop-a-test.false

-- `confirm_map::inside` meets its contract: the bytes that were passed are elements of the second table. Assumes nothing.
use native.Mathlib.Omega.{arith}
use Rattle.finite.proofs.Each.{each_none, each_more, each_all, each_not}
use Rattle.confirm_map.proofs.inside.Goals as goal

pub loop-s-init : goal.loop-s-init
loop-s-init c = each_none

pub returns-then-mapped-n2 : goal.returns-then-mapped-n2
returns-then-mapped-n2 c = each_not c.loop-s-test.true (λ h. omega (arith, c.mapped.ensures, c.if-mapped-n2.true))

pub loop-s-preserved : goal.loop-s-preserved
loop-s-preserved c = each_more c.loop-s.invariant (omega (arith, c.mapped.ensures, c.if-mapped-n2.false))

pub returns : goal.returns
returns c = each_all c.loop-s.invariant c.loop-s-test.false

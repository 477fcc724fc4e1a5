-- `confirm_reduction::each_alone` meets its contract: the elements that were passed are alone. Assumes nothing.
use native.Mathlib.Omega.{arith}
use mir.Facts.{Fits-8_64}
use Rattle.finite.proofs.Each.{each_none, each_more, each_all, each_not}
use Rattle.confirm_reduction.proofs.each_alone.Goals as goal

pub loop-s-init : goal.loop-s-init
loop-s-init c = each_none

pub overflow_add-least : goal.overflow_add-least
overflow_add-least c = omega (arith, c.requires.n_bound)

pub bounds-scratch-s : goal.bounds-scratch-s
bounds-scratch-s c = omega (arith, c.requires.n_bound, c.requires.scratch_size_in_bounds)

pub overflow_cast-least : goal.overflow_cast-least
overflow_cast-least c = Fits-8_64 (c.type_inv.scratch _)

pub returns-then-least-s : goal.returns-then-least-s
returns-then-least-s c = each_not c.loop-s-test.true c.if-least-s.true

pub loop-s-preserved : goal.loop-s-preserved
loop-s-preserved c = each_more c.loop-s.invariant c.if-least-s.false

pub returns : goal.returns
returns c = each_all c.loop-s.invariant c.loop-s-test.false

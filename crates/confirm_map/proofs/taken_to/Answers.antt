-- `confirm_map::taken_to` meets its contract: no element that was passed goes to t. Assumes nothing.
use mathlib.Core.Path.{◌∙◌}
use Rattle.finite.proofs.Each.{each_none, each_more}
use Rattle.confirm_map.proofs.Mapping.{taken_here, taken_nowhere}
use Rattle.confirm_map.proofs.taken_to.Goals as goal

pub loop-s-init : goal.loop-s-init
loop-s-init c = each_none

pub returns-then-mapped-t : goal.returns-then-mapped-t
returns-then-mapped-t c = taken_here c.loop-s-test.true c.mapped.ensures c.if-mapped-t.true

pub loop-s-preserved : goal.loop-s-preserved
loop-s-preserved c = each_more c.loop-s.invariant (λ e. c.if-mapped-t.false (c.mapped.ensures ∙ e))

pub returns : goal.returns
returns c = taken_nowhere c.loop-s.invariant c.loop-s-test.false

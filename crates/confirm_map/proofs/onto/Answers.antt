-- `confirm_map::onto` meets its contract: the elements of the second table that were passed are gone to. Assumes nothing.
use Rattle.finite.proofs.Each.{each_none, each_told, each_all, each_told_not}
use mathlib.Core.Bool.{not}
use mathlib.Core.Path.{ap}
use Rattle.confirm_map.proofs.onto.Goals as goal

pub loop-t-init : goal.loop-t-init
loop-t-init c = each_none

pub taken_to-requires : goal.taken_to-requires
taken_to-requires c = c.requires

pub returns-then-not-taken_to : goal.returns-then-not-taken_to
returns-then-not-taken_to c = each_told_not c.loop-t-test.true c.taken_to.ensures (ap not c.if-not-taken_to.true)

pub loop-t-preserved : goal.loop-t-preserved
loop-t-preserved c = each_told c.loop-t.invariant c.taken_to.ensures (ap not c.if-not-taken_to.false)

pub returns : goal.returns
returns c = each_all c.loop-t.invariant c.loop-t-test.false

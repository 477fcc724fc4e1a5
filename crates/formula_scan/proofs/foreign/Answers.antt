-- `formula_scan::foreign` meets its contract: no letter before the one at hand is foreign and in the set. Assumes nothing.
use Rattle.first_letter_call.proofs.Elements.{foreign_start}
use Rattle.formula_scan.proofs.Letters.{found_here, found_more, found_none}
use Rattle.formula_scan.proofs.foreign.Goals as goal

pub loop-a-init : goal.loop-a-init
loop-a-init c = foreign_start

pub returns-then-set-a-eq1 : goal.returns-then-set-a-eq1
returns-then-set-a-eq1 c = found_here c.loop-a.invariant c.if-set-a-eq1.true

pub loop-a-preserved : goal.loop-a-preserved
loop-a-preserved c = found_more c.loop-a.invariant c.loop-a-test.true c.if-set-a-eq1.false

pub returns : goal.returns
returns c = found_none c.loop-a.invariant c.ranges.set.fits c.loop-a-test.false

-- `reduce_rounds::refine` meets its contract: the loop holds the blocks of as many rounds as were taken, and no round before was stable.
-- Assumes nothing.
use mathlib.Core.Path.{ap}
use native.Mathlib.Omega.{arith}
use borrow.Author.Tests.{not-true, not-false}
use Rattle.reduce_rounds.proofs.Settling.{rounds_started, running_next, running_finished, running_last}
use mathlib.Core.Bool.{not}
use Rattle.reduce_rounds.proofs.refine.Goals as goal

pub returns-then-not-look : goal.returns-then-not-look
returns-then-not-look c =
    let table = c.requires.table in
    running_finished c.loop-rounds.invariant table.small c.look.ensures table.some (rounds_started c.requires.table.small c.outcomes.ensures c.first_blocks.ensures) (omega arith) (not-true _ (ap not c.if-not-look.true))

pub loop-rounds-preserved : goal.loop-rounds-preserved
loop-rounds-preserved c =
    running_next c.loop-rounds.invariant c.requires.table.small c.look.ensures (not-false _ (ap not c.if-not-look.false)) c.take.ensures

pub returns : goal.returns
returns c =
    let table = c.requires.table in
    running_last c.loop-rounds.invariant table.small c.look-finished.ensures table.some (rounds_started table.small c.outcomes.ensures c.first_blocks.ensures) (omega arith)

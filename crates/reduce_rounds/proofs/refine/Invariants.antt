-- `reduce_rounds::refine` meets its contract: the loop holds the blocks of as many rounds as were taken, and no round before was stable.
-- Assumes nothing.
use Rattle.formats.specs.Table.{morphism_at}
use Rattle.reduce_rounds.proofs.Settling.{Running}
use Rattle.reduce_rounds.proofs.refine.Given as goal

abbrev pub invariant-loop-rounds : goal.invariant-loop-rounds
invariant-loop-rounds l = Running (morphism_at l.rule l.n l.k) l.initial.scratch l.scratch l.rounds

-- `reduce_first_round::outcomes` meets its contract: the columns that were passed are written. Assumes nothing.
use Rattle.formats.specs.Table.{morphism_at}
use Rattle.reduce_first_round.specs.Steps.{OutcomesWritten}
use Rattle.reduce_first_round.proofs.outcomes.Given as goal

abbrev pub invariant-loop-z : goal.invariant-loop-z
invariant-loop-z l = OutcomesWritten (morphism_at l.rule l.n l.k) l.z l.initial.scratch l.scratch

-- `reduce_first_round::outcome_column` meets its contract: the outcomes of the elements that were passed are written. Assumes nothing.
use Rattle.formats.specs.Table.{morphism_at}
use Rattle.reduce_first_round.specs.Steps.{ColumnWritten}
use Rattle.reduce_first_round.proofs.outcome_column.Given as goal

abbrev pub invariant-loop-s : goal.invariant-loop-s
invariant-loop-s l = ColumnWritten (morphism_at l.rule l.n l.k) l.z l.s l.initial.scratch l.scratch

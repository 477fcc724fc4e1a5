-- `reduce_first_round::first_blocks` meets its contract: the elements that were passed have their blocks. Assumes nothing.
use Rattle.scratch.specs.Map.{blocks_base}
use Rattle.formats.specs.Table.{morphism_at}
use Rattle.theory.specs.Rounds.{Together}
use Rattle.reduce_first_round.specs.Map.{outcome_at}
use Rattle.reduce_first_round.specs.Steps.{BlocksWritten}
use Rattle.reduce_first_round.proofs.first_blocks.Given as goal

abbrev pub invariant-loop-s : goal.invariant-loop-s
invariant-loop-s l = BlocksWritten l.s (Together (morphism_at l.rule l.n l.k) (outcome_at l.initial.scratch) 0) blocks_base l.initial.scratch l.scratch

-- `reduce_round_blocks::next_blocks` meets its contract: the elements that were passed have their new blocks. Assumes nothing.
use Rattle.scratch.specs.Map.{next_blocks_base}
use Rattle.formats.specs.Table.{morphism_at}
use Rattle.theory.specs.Rounds.{StillTogether}
use Rattle.reduce_first_round.specs.Map.{InOneBlock}
use Rattle.reduce_first_round.specs.Steps.{BlocksWritten}
use Rattle.reduce_round_blocks.proofs.next_blocks.Given as goal

abbrev pub invariant-loop-s : goal.invariant-loop-s
invariant-loop-s l = BlocksWritten l.s (StillTogether (morphism_at l.rule l.n l.k) (InOneBlock l.initial.scratch)) next_blocks_base l.initial.scratch l.scratch

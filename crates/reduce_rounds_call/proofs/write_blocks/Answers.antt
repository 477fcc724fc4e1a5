-- `reduce_rounds_call::write_blocks` meets its contract: the rounds, and a copy of their blocks. Assumes nothing.
use Rattle.reduce_rounds_call.proofs.Calling.{blocks_given}
use Rattle.reduce_rounds_call.proofs.write_blocks.Goals as goal

pub returns : goal.returns
returns c =
    blocks_given c.requires.table.small c.requires.scratch_size_in_bounds c.refine-refined.ensures c.copy.ensures

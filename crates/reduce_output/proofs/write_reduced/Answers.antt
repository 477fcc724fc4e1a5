-- `reduce_output::write_reduced` meets its contract: the rounds, the numbers of the blocks and a copy of them, and the rule of the blocks. Assumes
-- nothing.
use Rattle.reduce_output.proofs.Writing.{quotient_place, reduced_written}
use Rattle.reduce_output.proofs.write_reduced.Goals as goal

pub write_quotient-requires-clause-quotient_needs : goal.write_quotient-requires-clause-quotient_needs
write_quotient-requires-clause-quotient_needs c =
    quotient_place c.requires.table.small c.requires.reduce_needs c.refine.ensures c.number_blocks-c.ensures

pub returns : goal.returns
returns c =
    reduced_written c.requires.table.small c.requires.reduce_needs c.refine.ensures c.number_blocks-c.ensures
    c.write_quotient.ensures c.copy_from_slice.ensures.after

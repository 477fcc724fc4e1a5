-- The six bytes are the row. Assumes nothing.
use Rattle.automaton_matrices.proofs.Storing.{bytes_row}
use Rattle.automaton_matrices.proofs.load_row.Goals as goal

pub returns : goal.returns
returns c = rw c.copy_from_slice.ensures.after (bytes_row c.args.scratch.now c.args.at c.requires)

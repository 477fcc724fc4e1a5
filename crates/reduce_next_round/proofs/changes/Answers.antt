-- `reduce_next_round::changes` meets its contract: the two parts are compared. Assumes nothing.
use Rattle.std.proofs.Common.{arith}
use Rattle.reduce_next_round.proofs.Taking.{changes_told}
use Rattle.reduce_next_round.proofs.changes.Goals as goal

pub returns : goal.returns
returns c =
    changes_told (omega (arith, c.requires.n_bound, c.requires.scratch_size_in_bounds)) (omega (arith, c.requires.n_bound, c.requires.scratch_size_in_bounds)) c.ne.ensures

-- The two parts are compared as wholes. Assumes nothing.
use Rattle.automaton_matrices.proofs.Comparing.{parts_same}
use Rattle.automaton_matrices.proofs.same_bytes.Goals as goal

pub returns : goal.returns
returns c = parts_same _ _ _ _ c.requires.0 c.requires.1 c.told-row _ c.eq.ensures

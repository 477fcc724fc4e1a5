-- Three bytes are written, each within its part of scratch. Assumes nothing.
use Rattle.automaton_matrix_search.proofs.Recording.{step_recorded}
use Rattle.automaton_matrix_search.proofs.record_step.Goals as goal

pub returns : goal.returns
returns c = step_recorded c.requires

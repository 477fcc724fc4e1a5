-- One lemma for each way: the matrix has its place, and the step is recorded, or there is none for it. Assumes nothing.
use Rattle.automaton_matrix_search.proofs.Recording.{step_full, record_place, step_taken}
use Rattle.automaton_matrix_search.proofs.add_step.Goals as goal

pub record_step-requires : goal.record_step-requires
record_step-requires c = record_place c.requires.matrix_list c.requires.parent_le_count.0 c.requires.parent_le_count.1 c.add_matrix.result c.add_matrix.ensures c.in_ok-placed.was

pub returns : goal.returns
returns c = step_taken c.requires.matrix_list c.requires.parent_le_count.0 c.requires.parent_le_count.1 c.add_matrix.result c.add_matrix.ensures c.in_ok-placed.was c.record_step.ensures

pub returns-in_err-placed : goal.returns-in_err-placed
returns-in_err-placed c = rw c.from_residual.ensures (step_full c.requires.matrix_list c.requires.parent_le_count.0 c.requires.parent_le_count.1 c.add_matrix.result c.add_matrix.ensures c.in_err-placed.was)

-- One lemma for each way: the matrix is there, the list is full, or the matrix gets the next place. Assumes nothing.
use Rattle.automaton_matrix_search.proofs.Adding.{add_there, add_full, add_new}
use Rattle.automaton_matrix_search.proofs.add_matrix.Goals as goal

pub returns-in-Some : goal.returns-in-Some
returns-in-Some c = add_there c.requires.matrix_list c.in-Some.ensures

pub returns-then-count-eq64 : goal.returns-then-count-eq64
returns-then-count-eq64 c = add_full c.requires.matrix_list c.in_default.ensures c.if-count-eq64.true

pub returns : goal.returns
returns c = add_new c.requires.matrix_list c.in_default.ensures c.if-count-eq64.false c.requires.matrix_shape c.store_matrix.ensures

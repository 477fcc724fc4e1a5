-- The letters' matrices begin the list, and their products close it. Assumes nothing.
use Rattle.automaton_matrix_list.proofs.Closing.{begun_list, begun_full, begun_done}
use Rattle.automaton_matrix_list.proofs.list_matrices.Goals as goal

pub returns-in_err-begun : goal.returns-in_err-begun
returns-in_err-begun c = rw c.from_residual.ensures (begun_full c.requires.list_needs c.add_letters.ensures c.in_err-begun.was)

pub close_list-requires : goal.close_list-requires
close_list-requires c = record {
  letter_list = begun_list c.requires.list_needs c.add_letters.ensures c.in_ok-begun.was;
  le_k = c.requires.le_k;
  lent_table = c.requires.lent_table;
}

pub returns : goal.returns
returns c = begun_done c.requires.list_needs c.add_letters.ensures c.in_ok-begun.was c.close_list.ensures

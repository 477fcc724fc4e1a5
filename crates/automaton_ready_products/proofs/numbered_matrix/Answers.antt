-- Two rows of two digits, and zeros. Assumes nothing.
use Rattle.automaton_ready_products.proofs.Ready.{rows_numbered}
use Rattle.automaton_ready_products.proofs.numbered_matrix.Goals as goal

pub returns : goal.returns
returns c = rows_numbered _

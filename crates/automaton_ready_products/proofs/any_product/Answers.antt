-- Both ways meet the contract: the table's where there are two states, and the general one. Assumes nothing.
use Rattle.automaton_ready_products.proofs.Ready.{two_states, two_product}
use Rattle.automaton_ready_products.proofs.any_product.Goals as goal

pub ready_product-requires : goal.ready_product-requires
ready_product-requires c = let whole = two_states c.if-n-eq2.true c.requires.matrix_shape c.requires.lent_table c.if-table-gt0.true in record { matrix_shape = whole.0; ready_table = whole.1 }

pub returns-then-table-gt0 : goal.returns-then-table-gt0
returns-then-table-gt0 c = two_product c.if-n-eq2.true c.ready_product.ensures

-- The whole table passes the test, which is computed once. Assumes nothing.
use mathlib.Core.Path.{refl}
use Rattle.buchi.specs.Matrices.{entries_through, greatest, product}
use Rattle.automaton_ready_products.specs.Ready.{matrix_number, numbered, product_number}
use Rattle.automaton_ready_products.proofs.Table.{table_ready}
use Rattle.automaton_ready_table.proofs.make_ready_rule.Goals as goal

pub make_rule_by-requires : goal.make_rule_by-requires
unfolding entries_through greatest product matrix_number numbered product_number
make_rule_by-requires c = record {
  read_here = c.requires;
  ready_table = table_ready _ refl tt;
}

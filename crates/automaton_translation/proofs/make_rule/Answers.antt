-- `automaton_translation::make_rule` meets its contract: the matrices are listed, or too many; then the rule is laid out and written.
-- Assumes nothing.
use Rattle.automaton_translation.proofs.Reading.{read_some, read_place, read_letters}
use Rattle.automaton_translation.proofs.Making.{made_refused, lay_place, write_place, rule_made}
use Rattle.automaton_translation.proofs.make_rule.Goals as goal

pub slice_bounds-kinds-count : goal.slice_bounds-kinds-count
slice_bounds-kinds-count c = read_some c.requires.read_here

pub slice_bounds-kinds-start : goal.slice_bounds-kinds-start
slice_bounds-kinds-start c = read_some c.requires.read_here

pub list_matrices-requires : goal.list_matrices-requires
list_matrices-requires c = record {
  list_needs = read_place c.requires.read_here;
  le_k = read_letters c.requires.read_here;
  lent_table = c.requires.lent_table;
}

pub returns-in-None : goal.returns-in-None
returns-in-None c =
    made_refused c.requires.read_here c.list_matrices.result c.list_matrices.ensures c.in-None.is c.zero.ensures

pub lay_rule-requires : goal.lay_rule-requires
lay_rule-requires c =
    let whole = lay_place c.requires.read_here c.list_matrices.result c.list_matrices.ensures c.in-Some.is in record { step_list = whole.0; mark_needs = whole.1 }

pub write_laid-length-requires : goal.write_laid-length-requires
write_laid-length-requires c =
    write_place c.requires.read_here c.list_matrices.result c.list_matrices.ensures c.in-Some.is c.lay_rule.ensures

pub returns : goal.returns
returns c =
    rule_made c.requires.read_here c.list_matrices.result c.list_matrices.ensures c.in-Some.is c.lay_rule.ensures c.write_laid-length.ensures c.zero-2.ensures

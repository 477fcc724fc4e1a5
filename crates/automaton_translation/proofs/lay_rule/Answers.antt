-- `automaton_translation::lay_rule` meets its contract: the products stay through the marks. Assumes nothing.
use Rattle.automaton_table.proofs.Numbers.{step_place_lem}
use Rattle.automaton_translation.proofs.Laid.{marks_next, rule_laid}
use Rattle.automaton_translation.proofs.lay_rule.Goals as goal

pub lay_products-requires : goal.lay_products-requires
lay_products-requires c = step_place_lem c.requires.step_list

pub lay_marks-requires : goal.lay_marks-requires
lay_marks-requires c =
    marks_next c.requires.step_list c.lay_products.ensures c.requires.mark_needs

pub returns : goal.returns
returns c =
    rule_laid c.requires.step_list c.lay_products.ensures c.lay_marks.ensures

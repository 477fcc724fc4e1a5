-- `rule_automaton::is_state` meets its contract: s is no value, e is no element, or the square of e decides. Assumes nothing.
use Rattle.monitor_state.proofs.Numbers.{number_stray, number_good}
use Rattle.rule_automaton.proofs.Values.{no_value, no_element, square_decides}
use Rattle.rule_automaton.proofs.is_state.Goals as goal

pub returns-then-number_out_of_range : goal.returns-then-number_out_of_range
returns-then-number_out_of_range c = no_value _ _ (number_stray _ _ c.number_out_of_range.result c.number_out_of_range.ensures c.if-number_out_of_range.true)

pub returns-then-n-e : goal.returns-then-n-e
returns-then-n-e c = no_element _ _ c.if-n-e.true

pub returns : goal.returns
returns c =
    square_decides _ c.requires.small (number_good _ _ c.number_out_of_range.result c.number_out_of_range.ensures c.if-number_out_of_range.false) c.if-n-e.false
    c.product-square.ensures

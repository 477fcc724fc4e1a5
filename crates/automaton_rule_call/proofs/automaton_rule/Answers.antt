-- `automaton_rule_call::automaton_rule` meets its contract: a short buffer, an automaton that is refused, and one that was read.
-- Assumes nothing.
use Rattle.automaton_rule_call.proofs.Calling.{out_short, read_refused, read_here, rule_promised}
use Rattle.automaton_rule_call.proofs.automaton_rule.Goals as goal

pub returns-then-out-lt-RULE_SIZE : goal.returns-then-out-lt-RULE_SIZE
returns-then-out-lt-RULE_SIZE c = out_short _ _ _ c.if-out-lt-RULE_SIZE.true

pub translate-requires : goal.translate-requires
translate-requires c =
    read_here _ _ _ c.if-out-lt-RULE_SIZE.false c.in-Ok.ensures

pub returns-in-Ok : goal.returns-in-Ok
returns-in-Ok c =
    rule_promised _ _ _ c.if-out-lt-RULE_SIZE.false c.in-Ok.ensures c.translate.ensures

pub returns-in-Err : goal.returns-in-Err
returns-in-Err c =
    read_refused _ _ _ c.if-out-lt-RULE_SIZE.false c.in-Err.ensures

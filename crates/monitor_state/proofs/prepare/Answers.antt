-- `monitor_state::prepare` meets its contract: the rule's checks decide, then the monitor's two values. Assumes nothing.
use Rattle.answer.proofs.PassedOn.{passed_on}
use Rattle.monitor_state.specs.Ready.{ReadyPromise}
use Rattle.monitor_state.proofs.Prepared.{rule_refused, monitor_stray, monitor_good}
use Rattle.monitor_state.proofs.Numbers.{said_stray, said_good}
use Rattle.monitor_state.proofs.prepare.Goals as goal

pub returns-in_err-shape : goal.returns-in_err-shape
returns-in_err-shape c =
    let a = c.args in
    passed_on (ReadyPromise a.rule.now a.m a.scratch.now c.check.new.scratch) c.from_residual.result c.from_residual.ensures.1
    (rule_refused _ _ _ c.in_err-shape.ensures)

pub returns-then-out_of_range : goal.returns-then-out_of_range
returns-then-out_of_range c =
    let asked = c.out_of_range in
    monitor_stray _ _ _ _ _ c.in_ok-shape.ensures c.zero.ensures (said_stray _ _ asked.result asked.ensures c.if-out_of_range.true)

pub returns : goal.returns
returns c =
    let asked = c.out_of_range in
    monitor_good _ _ _ _ _ c.in_ok-shape.ensures c.zero.ensures (said_good _ _ asked.result asked.ensures c.if-out_of_range.false)

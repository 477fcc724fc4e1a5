-- `monitor_standing::check_standing` meets its contract: the rule's checks, the monitor's values, then the strength. Assumes nothing.
use Rattle.std.proofs.Common.{ap}
use borrow.Author.Tests.{not-true, not-false}
use mathlib.Core.Bool.{not}
use Rattle.answer.proofs.PassedOn.{passed_on}
use Rattle.mark_strong.proofs.Calling.{checked_table, decide_place}
use Rattle.monitor_state.proofs.Numbers.{said_stray, said_good}
use Rattle.monitor_standing.specs.Standing.{StandingAnswer}
use Rattle.monitor_standing.proofs.Ways.{rule_refused, monitor_stray, rule_weak, rule_stands}
use Rattle.monitor_standing.proofs.check_standing.Goals as goal

pub returns-in_err-shape : goal.returns-in_err-shape
returns-in_err-shape c =
    let a = c.args in
    passed_on (StandingAnswer a.input a.rule.now a.monitor a.scratch.now c.check.new.scratch) c.from_residual.result c.from_residual.ensures.1
    (rule_refused _ _ _ _ c.in_err-shape.ensures)

pub returns-then-out_of_range : goal.returns-then-out_of_range
returns-then-out_of_range c =
    monitor_stray _ _ _ _ c.in_ok-shape.ensures (said_stray _ _ c.out_of_range.result c.out_of_range.ensures c.if-out_of_range.true) c.zero.ensures

pub decide-requires : goal.decide-requires
decide-requires c = record {
  table = checked_table _ _ _ c.in_ok-shape.ensures;
  decide_needs = decide_place _ _ _ c.in_ok-shape.ensures;
}

pub returns-then-not-decide : goal.returns-then-not-decide
returns-then-not-decide c =
    rule_weak _ _ _ _ c.in_ok-shape.ensures (said_good _ _ c.out_of_range.result c.out_of_range.ensures c.if-out_of_range.false) c.decide.ensures
    (not-true _ (ap not c.if-not-decide.true)) c.zero-then-not-decide.ensures

pub returns : goal.returns
returns c =
    rule_stands _ _ _ _ c.in_ok-shape.ensures (said_good _ _ c.out_of_range.result c.out_of_range.ensures c.if-out_of_range.false) c.decide.ensures
    (not-false _ (ap not c.if-not-decide.false))

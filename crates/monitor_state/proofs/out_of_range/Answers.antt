-- `monitor_state::out_of_range` meets its contract: before is looked at, and then since. Assumes nothing.
use Rattle.std.proofs.Common.{sym, subst}
use Rattle.monitor_state.specs.Ready.{StrayAnswer}
use Rattle.monitor_state.proofs.Numbers.{stray_before, stray_by_since}
use Rattle.monitor_state.proofs.out_of_range.Goals as goal

pub returns-then-number_out_of_range : goal.returns-then-number_out_of_range
returns-then-number_out_of_range c =
    let e = c.if-number_out_of_range.true in subst (StrayAnswer c.args.n c.args.m) (sym e) (stray_before c.args.n c.args.m c.number_out_of_range.ensures e)

pub returns-else-number_out_of_range : goal.returns-else-number_out_of_range
returns-else-number_out_of_range c =
    stray_by_since _ _ c.number_out_of_range.ensures c.if-number_out_of_range.false c.number_out_of_range-else-number_out_of_range.result
    c.number_out_of_range-else-number_out_of_range.ensures

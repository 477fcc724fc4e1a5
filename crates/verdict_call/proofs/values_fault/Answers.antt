-- `verdict_call::values_fault` meets its contract: a stray value first, then a since that is none. Assumes nothing.
use Rattle.monitor_state.proofs.Numbers.{said_stray, said_good}
use Rattle.verdict_call.proofs.Values.{values_stray, values_none, values_judgeable}
use Rattle.verdict_call.proofs.values_fault.Goals as goal

pub returns-then-out_of_range : goal.returns-then-out_of_range
returns-then-out_of_range c =
    values_stray _ _ (said_stray _ _ c.out_of_range.result c.out_of_range.ensures c.if-out_of_range.true)

pub returns-then-since-eq64 : goal.returns-then-since-eq64
returns-then-since-eq64 c =
    values_none _ _ (said_good _ _ c.out_of_range.result c.out_of_range.ensures c.if-out_of_range.false) c.if-since-eq64.true

pub returns : goal.returns
returns c =
    values_judgeable _ _ (said_good _ _ c.out_of_range.result c.out_of_range.ensures c.if-out_of_range.false) c.if-since-eq64.false

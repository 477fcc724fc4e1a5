-- `verdict_call::start_element` meets its contract: before, or since where before is none. Assumes nothing.
use mathlib.Core.Path.{sym}
use Rattle.verdict_call.proofs.Values.{start_none, start_some}
use Rattle.verdict_call.proofs.start_element.Goals as goal

pub returns-then-monitor-eq64 : goal.returns-then-monitor-eq64
returns-then-monitor-eq64 c = sym (start_none _ c.if-monitor-eq64.true)

pub returns : goal.returns
returns c = sym (start_some _ c.if-monitor-eq64.false)

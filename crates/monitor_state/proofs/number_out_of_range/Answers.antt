-- `monitor_state::number_out_of_range` meets its contract: a number below n and 64 are good, and any other is stray. Assumes nothing.
use mathlib.Core.Logic.{inl, inr}
use Rattle.monitor_state.proofs.number_out_of_range.Goals as goal

pub returns-then-s-n : goal.returns-then-s-n
returns-then-s-n c = inl c.if-s-n.true

pub returns-then-s-eq64 : goal.returns-then-s-eq64
returns-then-s-eq64 c = inr c.if-s-eq64.true

-- `advance_call::foreign` meets its contract: only an event can be foreign, by its letter. Assumes nothing.
use Rattle.advance_call.proofs.Stepping.{event_foreign, event_known, mark_known, stay_known}
use Rattle.advance_call.proofs.foreign.Goals as goal

pub returns-then-k-letter : goal.returns-then-k-letter
returns-then-k-letter c = event_foreign _ c.in-Event.is c.if-k-letter.true

pub returns-else-k-letter : goal.returns-else-k-letter
returns-else-k-letter c = event_known _ c.in-Event.is c.if-k-letter.false

pub returns-in-Mark : goal.returns-in-Mark
returns-in-Mark c = mark_known _ c.in-Mark.is

pub returns-in-Stay : goal.returns-in-Stay
returns-in-Stay c = stay_known _ c.in-Stay.is

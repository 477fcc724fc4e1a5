-- `event_in_place_call::since_of` meets its contract: the answer is known by its case. Assumes nothing.
use mathlib.Core.Path.{sym, ap}
use Rattle.event_in_place_call.specs.InPlace.{since_of}
use Rattle.event_in_place_call.proofs.since_of.Goals as goal

pub returns-in-Refused : goal.returns-in-Refused
returns-in-Refused c = sym (ap since_of c.in-Refused.is)

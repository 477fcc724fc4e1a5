-- `event_in_place_call::event_in_place` meets its contract: what `event` answers, with the since stored in the lent monitor. Assumes nothing.
use Rattle.event_in_place_call.proofs.InPlace.{event_stored}
use Rattle.event_in_place_call.proofs.event_in_place.Goals as goal

pub returns : goal.returns
returns c =
    event_stored c.args.rule.now c.args.m.now c.args.letter c.args.scratch.now c.event-moved.new.scratch
    c.event-moved.ensures c.since_of-m.ensures c.told_of.ensures

-- `monitor_steps::moved` meets its contract: an event multiplies since, a mark gathers both values in before. Assumes nothing.
use Rattle.rule_table.proofs.Facts.{image_place}
use Rattle.monitor_steps.proofs.Moving.{image_good}
use Rattle.monitor_steps.proofs.Moving.{event_letter, event_taken, mark_taken, stay_taken}
use Rattle.monitor_steps.proofs.moved.Goals as goal

pub image-requires : goal.image-requires
image-requires c =
    image_place c.requires.table (event_letter _ c.in-Event.is c.requires.fact)

pub join-next-requires : goal.join-next-requires
join-next-requires c = record {
  table = c.requires.table;
  good_number = (c.requires.good_monitor.since_good, image_good c.requires.table (event_letter _ c.in-Event.is c.requires.fact) c.image.ensures);
}

pub join-next-requires-in-Mark : goal.join-next-requires-in-Mark
join-next-requires-in-Mark c = record {
  table = c.requires.table;
  good_number = (c.requires.good_monitor.before_good, c.requires.good_monitor.since_good);
}

pub returns-in-Event : goal.returns-in-Event
returns-in-Event c =
    let e = c.in-Event.is in
    let whole = event_taken c.requires.table c.requires.good_monitor e (event_letter _ e c.requires.fact) c.image.ensures c.join-next.ensures in record { moved = whole.0; good = whole.1 }

pub returns-in-Mark : goal.returns-in-Mark
returns-in-Mark c =
    let whole = mark_taken c.requires.table c.requires.good_monitor c.in-Mark.is c.join-next-in-Mark.ensures in record { moved = whole.0; good = whole.1 }

pub returns-in-Stay : goal.returns-in-Stay
returns-in-Stay c =
    let whole = stay_taken c.requires.table c.requires.good_monitor c.in-Stay.is in record { moved = whole.0; good = whole.1 }

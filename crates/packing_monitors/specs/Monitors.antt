-- What the number holds for an answer about a monitor or the harbour board. Assumes nothing.
use Rattle.std.specs.Prelude.{ℕ, ◌+◌, ◌*◌}
use Rattle.answer.specs.Refusals.{number_of}
use Rattle.promises.specs.declared.Monitor.{Monitor}
use Rattle.promises.specs.declared.Moved.{Moved}
use Rattle.promises.specs.declared.Moved.TheVariants.{To, Refused as Not-moved}
use Rattle.promises.specs.declared.Advanced.{Advanced}
use Rattle.promises.specs.declared.Advanced.TheVariants.{To as Advanced-to, Refused as Not-advanced}
use Rattle.board_promises.specs.declared.Board.{Board}
use Rattle.board_promises.specs.declared.Notice.{Notice}
use Rattle.board_promises.specs.declared.Notice.TheVariants.{Done, Refused as Not-done}
use Rattle.packing.specs.Packing.{Contents, fields, refusal_at, pack}

-- the monitor's two values
abbrev pub monitor_contents : Monitor → Contents
monitor_contents m = fields m.before m.since 0

abbrev pub pack_monitor : Monitor → ℕ
pack_monitor m = pack (monitor_contents m)

-- those of the moved one; after a refusal the caller's own is unchanged
abbrev pub moved_contents : Moved → Contents
moved_contents (To m) = monitor_contents m
moved_contents (Not-moved m refusal input place) = refusal_at (number_of refusal) input place

abbrev pub pack_moved : Moved → ℕ
pack_moved answer = pack (moved_contents answer)

-- the values of the moved monitor, and its grade, 4 for none, with 256 times its turns
abbrev pub advanced_contents : Advanced → Contents
advanced_contents (Advanced-to m grade turns) = fields m.before m.since (grade + 256 * turns)
advanced_contents (Not-advanced m refusal input place) = refusal_at (number_of refusal) input place

abbrev pub pack_advanced : Advanced → ℕ
pack_advanced answer = pack (advanced_contents answer)

-- the lowest grade of the board that is handed back, 4 for none
abbrev pub notice_contents : Board → Notice → Contents
notice_contents board Done = fields board.lowest 0 0
notice_contents board (Not-done refusal input place) = refusal_at (number_of refusal) input place

abbrev pub pack_notice : Board → Notice → ℕ
pack_notice board notice = pack (notice_contents board notice)

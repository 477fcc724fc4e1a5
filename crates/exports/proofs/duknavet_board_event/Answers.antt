-- `exports::duknavet_board_event` meets its contract: too few bytes are refused, else the board in them is handed over and the one that comes back is written. Assumes nothing.
use mathlib.Core.Path.{refl}
use Rattle.exports.proofs.Boards.{state_short, state_posted}
use Rattle.exports.proofs.duknavet_board_event.Goals as goal

pub returns-then-state-lt-STATE_SIZE : goal.returns-then-state-lt-STATE_SIZE
returns-then-state-lt-STATE_SIZE c = state_short c.if-state-lt-STATE_SIZE.true (refl, refl) c.pack_refusal.ensures

pub returns : goal.returns
returns c =
    state_posted c.if-state-lt-STATE_SIZE.false c.read_board.ensures c.event-answer.result c.event-answer.ensures c.write_posted.ensures c.pack_notice.ensures

-- `exports::duknavet_board_empty` meets its contract: too few bytes are refused, else the empty board is written. Assumes nothing.
use mathlib.Core.Path.{refl, ap, ◌∙◌}
use Rattle.board_promises.specs.declared.Board.{Board}
use Rattle.board_promises.specs.declared.Notice.TheVariants.{Done}
use Rattle.board_promises.specs.Boards.{empty_board}
use Rattle.board_state.specs.State.{state_with}
use Rattle.packing_monitors.specs.Monitors.{pack_notice}
use Rattle.exports.proofs.Boards.{state_short, state_posted}
use Rattle.exports.proofs.duknavet_board_empty.Goals as goal

pub returns-then-state-lt-STATE_SIZE : goal.returns-then-state-lt-STATE_SIZE
returns-then-state-lt-STATE_SIZE c = state_short c.if-state-lt-STATE_SIZE.true refl c.pack_refusal.ensures

pub returns : goal.returns
returns c =
    state_posted c.if-state-lt-STATE_SIZE.false refl (record { board = empty_board; notice = Done }) refl
    (c.write_board.ensures ∙ ap (state_with c.args.state.now) c.empty-board.ensures)
    (c.pack_notice.ensures ∙ ap (λ (b : Board). pack_notice b Done) c.empty-board.ensures)

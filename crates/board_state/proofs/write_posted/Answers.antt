-- `board_state::write_posted` meets its contract: only a call that is done writes. Assumes nothing.
use mathlib.Core.Path.{sym, ap, ◌∙◌}
use Rattle.board_state.specs.State.{state_after}
use Rattle.board_state.proofs.write_posted.Goals as goal

pub returns-in-Done : goal.returns-in-Done
returns-in-Done c = c.write_board.ensures ∙ sym (ap (state_after c.args.state.now c.args.answer.board) c.in-Done.is)

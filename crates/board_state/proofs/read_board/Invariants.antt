-- `board_state::read_board` meets its contract: each turn reads the three bytes of one name more. Assumes nothing.
use Prim.Native.Nat.{◌≤◌}
use mathlib.Core.Bool.{false}
use lib.ListN.{length}
use Rattle.board_state.specs.State.{state_size, present_byte, before_byte, since_byte}
use Rattle.board_state.proofs.Filled.{Filled}
use Rattle.board_state.proofs.read_board.Given as goal

abbrev pub invariant-loop-i : goal.invariant-loop-i
invariant-loop-i l =
    Filled (present_byte l.state) false l.present l.i × Filled (before_byte l.state) 0 l.before l.i × Filled (since_byte l.state) 0 l.since l.i × (l.i ≤ 8) × (state_size ≤ length l.state)

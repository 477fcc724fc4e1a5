-- `board_state::write_board` meets its contract: each turn writes the three bytes of one name more. Assumes nothing.
use Prim.Native.Nat.{◌≤◌}
use mathlib.Core.Path.{◌≡◌}
use lib.ListN.{length}
use Rattle.board_state.specs.State.{state_size}
use Rattle.board_state.proofs.Stores.{Written}
use Rattle.board_state.proofs.write_board.Given as goal

abbrev pub invariant-loop-i : goal.invariant-loop-i
invariant-loop-i l =
    Written l.board l.initial.state l.state l.i × (l.i ≤ 8) × (state_size ≤ length l.initial.state) × (length l.state ≡ length l.initial.state)

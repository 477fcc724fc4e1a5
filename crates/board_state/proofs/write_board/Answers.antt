-- `board_state::write_board` meets its contract: each turn writes the three bytes of one name more. Assumes nothing.
use Prim.Native.Nat.{◌+◌, ◌*◌, ◌%◌, ◌<◌}
use mathlib.Core.Path.{◌≡◌, refl, ◌∙◌}
use mathlib.Core.Bool.{Bool, true, false}
use mir.Val.{bool_byte}
use native.Mathlib.Omega.{arith}
use lib.ListN.{length, get_or, set}
use lib.Seq.{lt-length-set}
use Rattle.board_state.specs.State.{flag_byte}
use Rattle.board_state.proofs.Stores.{written_none, written_more, written_all}
use Rattle.board_state.proofs.write_board.Goals as goal

same_flag : (there : Bool) → bool_byte there ≡ flag_byte there
same_flag true = refl
same_flag false = refl

pub loop-i-init : goal.loop-i-init
loop-i-init c = (written_none _ _, omega arith, c.requires, refl)

pub bounds-state-i-in-loop-i : goal.bounds-state-i-in-loop-i
bounds-state-i-in-loop-i c =
    let room : 3 * c.loop-i.i + 1 < length c.loop-i.state = omega arith in
    lt-length-set c.loop-i.state (3 * c.loop-i.i) c.from.result room

pub bounds-state-i-in-loop-i-2 : goal.bounds-state-i-in-loop-i-2
bounds-state-i-in-loop-i-2 c =
    let room : 3 * c.loop-i.i + 2 < length c.loop-i.state = omega arith in
    let before = get_or c.args.board.before c.loop-i.i 0 in
    lt-length-set (set c.loop-i.state (3 * c.loop-i.i) c.from.result) (3 * c.loop-i.i + 1) (before % 256) (lt-length-set c.loop-i.state (3 * c.loop-i.i) c.from.result room)

pub loop-i-preserved : goal.loop-i-preserved
loop-i-preserved c =
    let so_far = c.loop-i.invariant in
    let more = written_more so_far.0 so_far.2 (omega arith) (c.from.ensures ∙ same_flag _) refl refl in
    (more, omega arith, so_far.2, more.same_length)

pub returns : goal.returns
returns c =
    let end = c.loop-i.invariant in
    written_all end.0 end.2 (omega arith) refl

-- `board_state::read_board` meets its contract: each turn reads the three bytes of one name more. Assumes nothing.
use mathlib.Core.Path.{refl}
use native.Mathlib.Omega.{arith}
use Rattle.board_state.proofs.Filled.{filled_none, filled_more, filled_all}
use Rattle.board_state.proofs.read_board.Goals as goal

pub loop-i-init : goal.loop-i-init
loop-i-init c = (filled_none _ _ _, filled_none _ _ _, filled_none _ _ _, omega arith, c.requires)

pub loop-i-preserved : goal.loop-i-preserved
loop-i-preserved c =
    let so_far = c.loop-i.invariant in (
      filled_more _ _ so_far.0 (omega arith) refl,
      filled_more _ _ so_far.1 (omega arith) c.from.ensures,
      filled_more _ _ so_far.2 (omega arith) c.from-in-loop-i.ensures,
      omega arith,
      so_far.4,
    )

pub returns : goal.returns
returns c =
    let end = c.loop-i.invariant in
    let present = filled_all _ _ end.0 (omega arith) in
    let before = filled_all _ _ end.1 (omega arith) in
    let since = filled_all _ _ end.2 (omega arith) in
    λ i. record { present = present i; before = before i; since = since i; lowest = c.from-lowest.ensures i }

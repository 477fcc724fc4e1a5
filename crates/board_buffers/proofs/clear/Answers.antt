-- `board_buffers::clear` meets its contract: each turn makes one more byte 0. Assumes nothing.
use mathlib.Core.Path.{refl}
use native.Mathlib.Omega.{arith}
use borrow.Author.Fill.{fill_none}
use Rattle.board_buffers.proofs.Zeros.{filled_length, filled_more, filled_all}
use Rattle.board_buffers.proofs.clear.Goals as goal

pub loop-i-init : goal.loop-i-init
loop-i-init c = (fill_none _ 0, omega arith, refl)

pub bounds-scratch-i : goal.bounds-scratch-i
bounds-scratch-i c = omega (arith, filled_length _ _ c.loop-i.invariant.0 c.loop-i.invariant.1)

pub loop-i-preserved : goal.loop-i-preserved
loop-i-preserved c =
    let below = c.loop-i.invariant in
    (filled_more _ _ below.0 (omega arith), omega arith, below.2)

pub shape_of-scratch : goal.shape_of-scratch
shape_of-scratch c = filled_length _ _ c.loop-i.invariant.0 c.loop-i.invariant.1

pub returns : goal.returns
returns c =
    let end = c.loop-i.invariant in
    filled_all _ _ end.0 end.2 c.loop-i-test.false end.1

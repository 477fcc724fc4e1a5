-- `board_buffers::put` meets its contract: each turn copies one byte more. Assumes nothing.
use native.Mathlib.Omega.{arith}
use Rattle.board_promises.proofs.Places.{put_none, put_length, put_more, put_all}
use Rattle.board_buffers.proofs.put.Goals as goal

pub loop-i-init : goal.loop-i-init
loop-i-init c = put_none _ _ _ c.requires

pub bounds-files-at : goal.bounds-files-at
bounds-files-at c = omega (arith, put_length c.loop-i.invariant)

pub loop-i-preserved : goal.loop-i-preserved
loop-i-preserved c = put_more c.loop-i.invariant c.loop-i-test.true

pub shape_of-files : goal.shape_of-files
shape_of-files c = put_length c.loop-i.invariant

pub returns : goal.returns
returns c = put_all c.loop-i.invariant c.loop-i-test.false

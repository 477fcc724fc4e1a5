-- `board_buffers::put` meets its contract: each turn copies one byte more. Assumes nothing.
use Rattle.board_promises.proofs.Places.{PutSoFar}
use Rattle.board_buffers.proofs.put.Given as goal

abbrev pub invariant-loop-i : goal.invariant-loop-i
invariant-loop-i l = PutSoFar l.file l.initial.files l.at l.i-end l.files l.i

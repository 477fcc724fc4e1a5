-- `reduce_numbering::find` meets its contract: none of the leaders that were passed is in one block with s. Assumes nothing.
use Rattle.reduce_numbering.proofs.Steps.{NoneSo}
use Rattle.reduce_numbering.proofs.find.Given as goal

abbrev pub invariant-loop-j : goal.invariant-loop-j
invariant-loop-j l = NoneSo l.scratch l.s l.j

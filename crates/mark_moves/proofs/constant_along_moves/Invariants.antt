-- `mark_moves::constant_along_moves` meets its contract: the elements that were passed agree, and all of them make the marks constant. Assumes nothing.
use Rattle.formats.specs.Table.{morphism_at}
use Rattle.finite.specs.Each.{EachBelow}
use Rattle.scratch.specs.Map.{marks_from}
use Rattle.mark_moves.specs.Agreeing.{CycleAgrees}
use Rattle.mark_moves.proofs.constant_along_moves.Given as goal

abbrev pub invariant-loop-e : goal.invariant-loop-e
invariant-loop-e l = EachBelow (CycleAgrees (morphism_at l.rule l.n l.k) (marks_from l.scratch 0)) l.e

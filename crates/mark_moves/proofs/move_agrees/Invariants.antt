-- `mark_moves::move_agrees` meets its contract: the starts that were passed agree. Assumes nothing.
use Rattle.formats.specs.Table.{morphism_at}
use Rattle.finite.specs.Each.{EachBelow}
use Rattle.scratch.specs.Map.{marks_from}
use Rattle.mark_moves.specs.Agreeing.{StartAgrees}
use Rattle.mark_moves.proofs.move_agrees.Given as goal

abbrev pub invariant-loop-s : goal.invariant-loop-s
invariant-loop-s l = EachBelow (StartAgrees (morphism_at l.rule l.n l.k) (marks_from l.scratch 0) l.e l.g l.f) l.s

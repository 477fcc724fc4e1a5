-- `mark_moves::columns_agree` meets its contract: the marks of the starts that were passed are the same. Assumes nothing.
use mathlib.Core.Path.{◌≡◌}
use Rattle.finite.specs.Each.{EachBelow}
use Rattle.scratch.specs.Map.{marks_from}
use Rattle.mark_moves.proofs.columns_agree.Given as goal

abbrev pub invariant-loop-s : goal.invariant-loop-s
invariant-loop-s l = EachBelow (λ i. marks_from l.scratch 0 i l.e ≡ marks_from l.scratch 0 i l.f) l.s

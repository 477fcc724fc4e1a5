-- `mark_moves::letters_agree` meets its contract: the letters that were passed agree. Assumes nothing.
use Rattle.formats.specs.Table.{morphism_at, image_at}
use Rattle.finite.specs.Each.{EachBelow}
use Rattle.scratch.specs.Map.{marks_from}
use Rattle.mark_moves.specs.Agreeing.{LetterAgrees}
use Rattle.mark_moves.proofs.letters_agree.Given as goal

abbrev pub invariant-loop-a : goal.invariant-loop-a
invariant-loop-a l = EachBelow (λ i. LetterAgrees (morphism_at l.rule l.n l.k) (marks_from l.scratch 0) l.e (image_at l.rule l.n i)) l.a

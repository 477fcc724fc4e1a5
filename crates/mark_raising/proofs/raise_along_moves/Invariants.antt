-- `mark_raising::raise_along_moves` meets its contract: each round keeps what is so of the marks, and one that raises none settles them. Assumes nothing.
use Rattle.formats.specs.Table.{morphism_at}
use Rattle.mark_raising.specs.Tables.{Kept}
use Rattle.mark_raising.specs.Raising.{Raised}
use Rattle.mark_raising.proofs.raise_along_moves.Given as goal

abbrev pub invariant-loop-round : goal.invariant-loop-round
invariant-loop-round l = Kept l.n l.initial.scratch l.scratch × Raised (morphism_at l.rule l.n l.k) l.scratch

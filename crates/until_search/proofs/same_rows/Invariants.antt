-- The loop holds that the rows so far are the same. Assumes nothing.
use Rattle.finite.specs.Each.{EachBelow}
use Rattle.until_search.specs.Searching.{RowSame}
use Rattle.until_search.proofs.same_rows.Given as goal

abbrev pub invariant-loop-t : goal.invariant-loop-t
invariant-loop-t l = EachBelow (RowSame l.np l.scratch l.classes l.j) l.t

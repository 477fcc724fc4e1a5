-- `mark_complement_marks::complement_marks` meets its contract: the pairs that begin with an element that was passed have their bytes.
-- Assumes nothing.
use Prim.Native.Nat.{◌≤◌}
use Rattle.formats.specs.Table.{morphism_at}
use Rattle.mark_complement_marks.specs.Complement.{ComplementRows}
use Rattle.mark_complement_marks.proofs.complement_marks.Given as goal

abbrev pub invariant-loop-s : goal.invariant-loop-s
invariant-loop-s l = ComplementRows (morphism_at l.rule l.n l.k) l.s l.initial.scratch l.scratch × (l.s ≤ l.n)

-- `section_triples::first_out` meets its contract: behind the triples that are known to be in range the loop passes only such ones, so a
-- byte that stops it is the first that is out. Assumes nothing.
use Prim.Native.Nat.{◌≤◌}
use Rattle.section_triples.proofs.TripleBytes.{TriplesPassed}
use Rattle.section_triples.proofs.first_out.Given as goal

abbrev pub invariant-loop-i : goal.invariant-loop-i
invariant-loop-i l = TriplesPassed l.rest l.first l.second l.third l.least l.i × (l.i ≤ l.count)

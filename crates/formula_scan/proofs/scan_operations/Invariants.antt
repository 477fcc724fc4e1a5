-- `formula_scan::scan_operations` meets its contract: the verdict from the byte at hand on is that of all bytes. Assumes nothing.
use Prim.Native.Nat.{◌-◌}
use lib.ListN.{length}
use Rattle.formula_scan.proofs.Passing.{Remaining}
use Rattle.formula_scan.proofs.scan_operations.Given as goal

abbrev pub invariant-loop-at : goal.invariant-loop-at
invariant-loop-at l = Remaining l.letters l.formula l.at l.height

abbrev pub decreases-loop-at : goal.decreases-loop-at
decreases-loop-at l = length l.formula - l.at

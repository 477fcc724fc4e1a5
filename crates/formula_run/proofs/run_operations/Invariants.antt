-- `formula_run::run_operations` meets its contract: the formulas so far stand on the stack, and the verdict from the operation at hand on is that of all.
-- Assumes nothing.
use Prim.Native.Nat.{◌-◌}
use lib.ListN.{length}
use Rattle.formula_slots.specs.Slots.{LentLengths}
use Rattle.formula_run.proofs.Steps.{Running}
use Rattle.formula_run.proofs.run_operations.Given as goal

abbrev pub invariant-loop-at : goal.invariant-loop-at
invariant-loop-at l =
    Running l.letters l.formula l.stack l.at l.height × LentLengths l.initial.stack l.stack l.initial.spare l.spare l.initial.classes l.classes l.initial.scratch l.scratch

abbrev pub decreases-loop-at : goal.decreases-loop-at
decreases-loop-at l = length l.formula - l.at

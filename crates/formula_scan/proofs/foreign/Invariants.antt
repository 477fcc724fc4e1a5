-- `formula_scan::foreign` meets its contract: no letter before the one at hand is foreign and in the set. Assumes nothing.
use Rattle.first_letter_call.proofs.Elements.{NoForeign}
use Rattle.formula_scan.proofs.foreign.Given as goal

abbrev pub invariant-loop-a : goal.invariant-loop-a
invariant-loop-a l = NoForeign l.letters l.set l.a

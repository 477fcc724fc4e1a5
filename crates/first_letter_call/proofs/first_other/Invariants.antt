-- The loop holds that the letters before the one at hand have the element 0. Assumes nothing.
use Rattle.first_letter_call.proofs.Elements.{NoOther}
use Rattle.first_letter_call.proofs.first_other.Given as goal

abbrev pub invariant-loop-a : goal.invariant-loop-a
invariant-loop-a l = NoOther l.set l.k l.a

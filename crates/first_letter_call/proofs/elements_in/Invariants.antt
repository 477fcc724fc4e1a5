-- The loop holds that the letters before the one at hand have their elements. Assumes nothing.
use Rattle.first_letter_call.specs.Elements.{ElementsFilled}
use Rattle.first_letter_call.proofs.elements_in.Given as goal

abbrev pub invariant-loop-a : goal.invariant-loop-a
invariant-loop-a l = ElementsFilled l.set l.a l.elements

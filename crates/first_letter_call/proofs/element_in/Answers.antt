-- Letter 0 is in the set or not, and so is the letter. Assumes nothing.
use Rattle.first_letter_call.proofs.Elements.{element_told}
use Rattle.first_letter_call.proofs.element_in.Goals as goal

pub returns-then-in_set-2 : goal.returns-then-in_set-2
returns-then-in_set-2 c = element_told _ _ c.in_set.ensures c.in_set-then-in_set.ensures c.if-in_set.true c.if-in_set-2.true

pub returns-then-in_set : goal.returns-then-in_set
returns-then-in_set c = element_told _ _ c.in_set.ensures c.in_set-then-in_set.ensures c.if-in_set.true c.if-in_set-2.false

pub returns-then-in_set-3 : goal.returns-then-in_set-3
returns-then-in_set-3 c = element_told _ _ c.in_set.ensures c.in_set-2.ensures c.if-in_set.false c.if-in_set-3.true

pub returns : goal.returns
returns c = element_told _ _ c.in_set.ensures c.in_set-2.ensures c.if-in_set.false c.if-in_set-3.false

-- One lemma for each way through the tests. Assumes nothing.
use Rattle.automaton_matrices.proofs.Letters.{letter_none, letter_from_final, letter_to_final, letter_plain}
use Rattle.automaton_matrices.proofs.letter_entry.Goals as goal

pub returns-then-steps-p-eq0 : goal.returns-then-steps-p-eq0
returns-then-steps-p-eq0 c = letter_none _ _ _ _ _ c.if-steps-p-eq0.true

pub returns-then-kinds-p-gt1 : goal.returns-then-kinds-p-gt1
returns-then-kinds-p-gt1 c = letter_from_final _ _ _ _ _ c.if-steps-p-eq0.false c.if-kinds-p-gt1.true

pub returns-then-kinds-q-gt1 : goal.returns-then-kinds-q-gt1
returns-then-kinds-q-gt1 c = letter_to_final _ _ _ _ _ c.if-steps-p-eq0.false c.if-kinds-p-gt1.false c.if-kinds-q-gt1.true

pub returns : goal.returns
returns c = letter_plain _ _ _ _ _ c.if-steps-p-eq0.false c.if-kinds-p-gt1.false c.if-kinds-q-gt1.false

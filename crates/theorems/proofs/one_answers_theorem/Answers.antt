-- `theorems::one_answers_theorem` meets its contract. Assumes nothing.
use Rattle.promises.proofs.OneAnswers.{one_answers}
use Rattle.theorems.proofs.one_answers_theorem.Goals as goal

pub returns : goal.returns
returns c = one_answers

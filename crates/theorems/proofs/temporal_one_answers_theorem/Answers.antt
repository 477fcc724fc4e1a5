-- `theorems::temporal_one_answers_theorem` meets its contract. Assumes nothing.
use Rattle.temporal_promises.proofs.OneAnswers.{temporal_one_answers}
use Rattle.theorems.proofs.temporal_one_answers_theorem.Goals as goal

pub returns : goal.returns
returns c = temporal_one_answers

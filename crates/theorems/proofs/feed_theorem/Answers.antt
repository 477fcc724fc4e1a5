-- `theorems::feed_theorem` meets its contract. Assumes nothing.
use Rattle.promises.proofs.FeedTheorem.{feed_theorem}
use Rattle.theorems.proofs.feed_theorem.Goals as goal

pub returns : goal.returns
returns c = feed_theorem

-- `example_lists::word_pair` meets its contract: each way through the tests is one case of the definition. Assumes nothing.
use native.Mathlib.Omega.{arith}
use Rattle.example_lists.proofs.Listing.{pair_two, pair_first_other, pair_second_other}
use Rattle.example_lists.proofs.word_pair.Goals as goal
use Rattle.example_lists.proofs.word_pair.Goals.{then-x-gt9-via-then-x-gt9, then-x-gt9-via-else-x-gt9+then-y-gt9}

pub returns-then-x-gt9 : goal.returns-then-x-gt9
returns-then-x-gt9 c =
    elim c.then-x-gt9.branch [
      | then-x-gt9-via-then-x-gt9 w ↦ pair_first_other _ w.if-x-gt9.true
      | then-x-gt9-via-else-x-gt9+then-y-gt9 w ↦ pair_second_other _ w.if-y-gt9.true
    ]

pub returns : goal.returns
returns c = pair_two (omega arith) (omega arith)

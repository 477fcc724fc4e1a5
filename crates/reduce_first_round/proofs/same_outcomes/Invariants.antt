-- `reduce_first_round::same_outcomes` meets its contract: the elements that were passed tell nothing apart. Assumes nothing.
use Rattle.reduce_first_round.specs.Map.{outcome_at}
use Rattle.reduce_first_round.proofs.Comparing.{SameBelow}
use Rattle.reduce_first_round.proofs.same_outcomes.Given as goal

abbrev pub invariant-loop-z : goal.invariant-loop-z
invariant-loop-z l = SameBelow (outcome_at l.scratch) l.s l.t l.z

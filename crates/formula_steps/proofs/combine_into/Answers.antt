-- `formula_steps::combine_into` meets its contract: the pairs' rule, reduced, or its refusal. Assumes nothing.
use Rattle.formula_steps.proofs.Stepping.{two_settled}
use Rattle.formula_steps.proofs.combine_into.Goals as goal

pub returns : goal.returns
returns c = record {
  step = two_settled _ c.combine_of-made.ensures c.settle.ensures.settled;
  kept = c.settle.ensures.kept;
}

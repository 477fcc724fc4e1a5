-- `formula_steps::until_into` meets its contract: `until`, reduced, or its refusal. Assumes nothing.
use Rattle.formula_promises.specs.Operations.{op_until}
use Rattle.formula_steps.proofs.Stepping.{two_settled}
use Rattle.formula_steps.proofs.until_into.Goals as goal

pub returns : goal.returns
returns c = record {
  step = two_settled op_until c.until_of-made.ensures c.settle.ensures.settled;
  kept = c.settle.ensures.kept;
}

-- `formula_steps::next_in` meets its contract: `next`, reduced, or its refusal. Assumes nothing.
use Rattle.formula_promises.specs.Operations.{op_next}
use Rattle.formula_steps.proofs.Stepping.{one_settled}
use Rattle.formula_steps.proofs.next_in.Goals as goal

pub returns : goal.returns
returns c = record {
  step = one_settled op_next c.next_of-made.ensures c.settle.ensures.settled;
  kept = c.settle.ensures.kept;
}

-- `formula_steps::settle` meets its contract: a refusal is passed on, and what was made is reduced. Assumes nothing.
use Rattle.formula_steps.proofs.Stepping.{none_touched, passed_refusal, passed_result}
use Rattle.formula_steps.proofs.settle.Goals as goal

pub returns-then-is_refusal : goal.returns-then-is_refusal
returns-then-is_refusal c = record {
  settled = passed_refusal _ c.is_refusal.ensures c.if-is_refusal.true;
  kept = none_touched _ _ _;
}

pub returns : goal.returns
returns c = record {
  settled = passed_result _ c.reduce_into.ensures.reduced;
  kept = c.reduce_into.ensures.kept;
}

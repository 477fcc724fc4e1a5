-- `formula_derived::negate_made` meets its contract: a refusal is passed on, and what was made is negated. Assumes nothing.
use Rattle.formula_steps.proofs.Stepping.{none_touched, passed_refusal, passed_result}
use Rattle.formula_derived.proofs.negate_made.Goals as goal

pub returns-then-is_refusal : goal.returns-then-is_refusal
returns-then-is_refusal c = record {
  negated = passed_refusal _ c.is_refusal.ensures c.if-is_refusal.true;
  kept = none_touched _ _ _;
}

pub returns : goal.returns
returns c = record {
  negated = passed_result _ c.negate.ensures.negated;
  kept = c.negate.ensures.kept;
}

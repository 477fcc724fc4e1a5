-- `formula_steps::negate` meets its contract: the complement, reduced. Assumes nothing.
use Rattle.formula_steps.proofs.Stepping.{negated_reduced}
use Rattle.formula_steps.proofs.negate.Goals as goal

pub returns : goal.returns
returns c = record {
  negated = negated_reduced c.complement_of.ensures c.reduce_into.ensures.reduced;
  kept = c.reduce_into.ensures.kept;
}

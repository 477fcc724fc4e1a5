-- `formula_derived::until_negated_in` meets its contract: both negated, and then until. Assumes nothing.
use Rattle.formula_derived.proofs.Keeping.{kept_by}
use Rattle.formula_derived.proofs.Deriving.{until_negated_step}
use Rattle.formula_derived.proofs.until_negated_in.Goals as goal

pub returns : goal.returns
returns c = record {
  step = until_negated_step c.negate_both.ensures.negated c.until_into.ensures.step;
  kept = kept_by c.negate_both.ensures.kept c.until_into.ensures.kept (λ i p q. (p, q)) (λ i p q. (p, p));
}

-- `formula_derived::eventually_not_in` meets its contract: the negation, and then eventually. Assumes nothing.
use Rattle.formula_derived.proofs.Keeping.{kept_by}
use Rattle.formula_derived.proofs.Deriving.{eventually_not_step}
use Rattle.formula_derived.proofs.eventually_not_in.Goals as goal

pub returns : goal.returns
returns c = record {
  step = eventually_not_step c.negate.ensures.negated c.eventually_in.ensures.step;
  kept = kept_by c.negate.ensures.kept c.eventually_in.ensures.kept (λ i p q. (p, p)) (λ i p q. (p, q));
}

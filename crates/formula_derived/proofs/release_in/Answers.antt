-- `formula_derived::release_in` meets its contract: the negation of until of both negated. Assumes nothing.
use Rattle.formula_derived.proofs.Keeping.{kept_by}
use Rattle.formula_derived.proofs.Deriving.{release_step}
use Rattle.formula_derived.proofs.release_in.Goals as goal

pub returns : goal.returns
returns c = record {
  step = release_step c.until_negated_in-made.ensures.step c.negate_made.ensures.negated;
  kept = kept_by c.until_negated_in-made.ensures.kept c.negate_made.ensures.kept (λ i p q. (p, q)) (λ i p q. (p, p));
}

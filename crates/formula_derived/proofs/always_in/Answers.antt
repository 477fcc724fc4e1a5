-- `formula_derived::always_in` meets its contract: the negation of eventually the negation. Assumes nothing.
use Rattle.formula_derived.proofs.Keeping.{kept_by}
use Rattle.formula_derived.proofs.Deriving.{always_step}
use Rattle.formula_derived.proofs.always_in.Goals as goal

pub returns : goal.returns
returns c = record {
  step = always_step c.eventually_not_in-made.ensures.step c.negate_made.ensures.negated;
  kept = kept_by c.eventually_not_in-made.ensures.kept c.negate_made.ensures.kept (λ i p q. (p, q)) (λ i p q. (p, p));
}

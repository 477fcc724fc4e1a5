-- `formula_derived::negate_both` meets its contract: one and then the other. Assumes nothing.
use Rattle.formula_derived.proofs.Keeping.{kept_by}
use Rattle.formula_derived.proofs.Deriving.{both_negated}
use Rattle.formula_derived.proofs.negate_both.Goals as goal

pub returns : goal.returns
returns c = record {
  negated = both_negated c.requires.first_lt_second c.negate.ensures.negated c.negate.ensures.kept c.negate-2.ensures.negated c.negate-2.ensures.kept;
  kept = kept_by c.negate.ensures.kept c.negate-2.ensures.kept (λ i p q. (p, p)) (λ i p q. (q, q));
}

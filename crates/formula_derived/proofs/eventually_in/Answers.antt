-- `formula_derived::eventually_in` meets its contract: 3 until the rule. Assumes nothing.
use Rattle.formula_derived.proofs.Keeping.{kept_by}
use Rattle.formula_derived.proofs.Deriving.{eventually_step}
use Rattle.formula_derived.proofs.eventually_in.Goals as goal

pub returns : goal.returns
returns c = record {
  step = eventually_step c.requires.slot_lt_free c.constant_into.ensures.made c.constant_into.ensures.kept c.until_into.ensures.step;
  kept = kept_by c.constant_into.ensures.kept c.until_into.ensures.kept (λ i p q. (q, q)) (λ i p q. (p, p));
}

-- `formula_derived::or_always_in` meets its contract: always, and then either; what is refused first is told. Assumes nothing.
use Rattle.formula_derived.proofs.Keeping.{kept_by}
use Rattle.formula_derived.proofs.WeakUntil.{or_always_refused, or_always_step}
use Rattle.formula_derived.proofs.or_always_in.Goals as goal

pub returns-then-is_refusal : goal.returns-then-is_refusal
returns-then-is_refusal c = record {
  step = or_always_refused _ c.is_refusal.ensures c.if-is_refusal.true c.always_in-always.ensures.step;
  kept = c.always_in-always.ensures.kept;
}

pub returns : goal.returns
returns c = record {
  step = or_always_step c.requires.first_lt_free c.requires.free_lt_other _ c.is_refusal.ensures c.if-is_refusal.false c.always_in-always.ensures.step c.always_in-always.ensures.kept c.combine_into.ensures.step;
  kept = kept_by c.always_in-always.ensures.kept c.combine_into.ensures.kept (λ i p q. (p, q)) (λ i p q. (p, p));
}

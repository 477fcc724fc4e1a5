-- `formula_derived::weak_until_in` meets its contract: until, and then or always; what is refused first is told. Assumes nothing.
use native.Mathlib.Omega.{arith}
use Rattle.formula_derived.proofs.Keeping.{below_kept, below_on}
use Rattle.formula_derived.proofs.WeakUntil.{weak_until_refused, weak_until_step}
use Rattle.formula_derived.proofs.weak_until_in.Goals as goal

pub returns-then-is_refusal : goal.returns-then-is_refusal
returns-then-is_refusal c =
    let low = c.requires.first_lt_second in
    let high = c.requires.second_lt_free in record {
      step = weak_until_refused _ c.is_refusal.ensures c.if-is_refusal.true c.until_into-until.ensures.step;
      kept = below_kept _ (λ i h e. omega arith) (λ i h e. omega arith) c.until_into-until.ensures.kept;
    }

pub returns : goal.returns
returns c =
    let low = c.requires.first_lt_second in
    let high = c.requires.second_lt_free in record {
      step = weak_until_step low high _ c.is_refusal.ensures c.if-is_refusal.false c.until_into-until.ensures.step c.until_into-until.ensures.kept c.or_always_in.ensures.step;
      kept = below_on (below_kept _ (λ i h e. omega arith) (λ i h e. omega arith) c.until_into-until.ensures.kept) (below_kept _ (λ i h e. omega arith) (λ i h e. omega arith) c.or_always_in.ensures.kept);
    }

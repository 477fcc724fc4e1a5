-- The highest mark among the powers of a turn's value: the loop's invariant, and what it gives where the loop ends. Assumes nothing.
use Prim.Native.Nat.{ℕ, suc, ◌+◌, ◌%◌, ◌≤◌, ◌<◌}
use mathlib.Core.Path.{◌≡◌, sym, ap, ◌∙◌, subst}
use mathlib.Core.Bool.{Bool}
use mathlib.Core.Logic.{◌↔◌}
use mathlib.Core.List.{List}
use native.Mathlib.Numerals.{add-one}
use native.Mathlib.Omega.{arith}
use native.Mathlib.Nat.{mod-lt}
use lib.Dec.{T, leb}
use Rattle.finite.specs.Search.{any_below}
use Rattle.finite.proofs.Search.{any_intro, any_elim}
use Rattle.theory.specs.Rules.{Lawful, Marking, Pairs, level}
use Rattle.theory.specs.Pairs.{LeastPower}
use Rattle.theory.proofs.IdempotentPowers.{least_power_is, least_power_idempotent}
use Rattle.theory.proofs.Powers.{times, idempotent_of, settling}
use Rattle.theory.proofs.Membership.{turn_look, turn_test, past_mod}
use Rattle.formats.proofs.Tables.{Table}
use Rattle.formats.specs.Table.{product_at, morphism_at}
use Rattle.rule_table.proofs.Facts.{product_below}
use Rattle.lasso_powers.specs.Raising.{Raised}
use Rattle.lasso_powers.proofs.Raises.{raised_start, raised_next, raised_same}

-- the look at the pair (p·e·r^j, e), for a grade
unfoldable pub looks_for : List ℕ → ℕ → ℕ → Marking → ℕ → ℕ → ℕ → ℕ → ℕ → Bool
looks_for bytes n k marks p r e g j = turn_look (morphism_at bytes n k) (level g marks) p r e j

-- e is the idempotent power of r, s is p·e·r^j, and high is the highest mark of the pairs (p·e·r^i, e) with i below j, where it is above
-- the number before
pub record Looking (bytes : List ℕ) (n k : ℕ) (marks : Marking) (p r e exponent before s high j : ℕ) : Type 0 where
  pub table : Table bytes n k
  pub law : Lawful (morphism_at bytes n k)
  pub p_inside : p < n
  pub r_inside : r < n
  pub s_inside : s < n
  pub power : LeastPower (morphism_at bytes n k) r e exponent
  pub has_value : s ≡ times (product_at bytes n) (product_at bytes n p e) r j
  pub raised : Raised (λ g. any_below j (looks_for bytes n k marks p r e g)) before high
  pub within : j ≤ exponent

module _ {bytes : List ℕ} {n k p r e exponent before : ℕ} where
  -- s is p·e, and no pair was looked at
  pub turn_start : {s : ℕ} (marks : Marking) → Table bytes n k → Lawful (morphism_at bytes n k) → p < n → r < n
      → LeastPower (morphism_at bytes n k) r e exponent → s ≡ product_at bytes n p e → Looking bytes n k marks p r e exponent before s before 0
  unfolding times
  turn_start marks t law hp hr l es = record {
    table = t;
    law = law;
    p_inside = hp;
    r_inside = hr;
    s_inside = product_below t hp (least_power_idempotent l).inside es;
    power = l;
    has_value = es;
    raised = raised_start (looks_for bytes n k marks p r e) before;
    within = omega arith;
  }

  -- the mark of (s, e) was looked at, and q is s·r
  pub turn_next : (marks : Marking) {s high high' j q mark : ℕ} → Looking bytes n k marks p r e exponent before s high j → j < exponent → mark ≡ marks s e
      → Raised (λ g. leb g mark) high high' → q ≡ product_at bytes n s r → Looking bytes n k marks p r e exponent before q high' (j + 1)
  unfolding times looks_for turn_look level
  turn_next marks {s} {j = j} t h em raised eq = record {
    table = t.table;
    law = t.law;
    p_inside = t.p_inside;
    r_inside = t.r_inside;
    s_inside = product_below t.table t.s_inside t.r_inside eq;
    power = t.power;
    has_value = rw add-one (eq ∙ ap (λ (x : ℕ). product_at bytes n x r) t.has_value);
    raised = raised_next (looks_for bytes n k marks p r e) t.raised raised (λ g. ap (leb g) (em ∙ ap (λ (x : ℕ). marks x e) t.has_value));
    within = omega (arith, h);
  }

module _ {bytes : List ℕ} {n k : ℕ} (marks : Marking) {p r e exponent before s high j : ℕ} (l : Looking bytes n k marks p r e exponent before s high j) where
  pub exponent_small : exponent ≤ n
  exponent_small = omega (arith, l.power.exponent_is.is_exponent, l.power.exponent_is.below)

  is_power : e ≡ idempotent_of n (product_at bytes n) r
  is_power = (least_power_is l.law l.r_inside l.power).is_power

  -- p·e·r^i comes again after as many as the exponent of e
  comes_again : (P : Pairs) (i : ℕ) → turn_look (morphism_at bytes n k) P p r e i ≡ turn_look (morphism_at bytes n k) P p r e (i % suc (settling n (product_at bytes n) r))
  unfolding turn_look
  comes_again P i = ap (λ (x : ℕ). P x e) (rw is_power (past_mod l.law l.p_inside l.r_inside i))

  -- so the first powers tell
  first_tell : exponent ≤ j → (g : ℕ) → T (any_below j (looks_for bytes n k marks p r e g)) ↔ T (turn_test (morphism_at bytes n k) (level g marks) p r)
  unfolding turn_test looks_for
  first_tell h g =
      let test : ℕ → Bool = turn_look (morphism_at bytes n k) (level g marks) p r e in (
        λ t.
            (let f = any_elim j test t in
            subst (λ (x : ℕ). T (any_below n (turn_look (morphism_at bytes n k) (level g marks) p r x))) is_power
            (any_intro n test f.at (omega (arith, f.below, l.within, exponent_small)) f.holds)),
        λ t.
            (let f = any_elim n test (subst (λ (x : ℕ). T (any_below n (turn_look (morphism_at bytes n k) (level g marks) p r x))) (sym is_power) t) in
            any_intro j test (f.at % suc (settling n (product_at bytes n) r))
            (omega (arith, h, mod-lt f.at (let z : 0 < suc (settling n (product_at bytes n) r) = omega arith in z), (least_power_is l.law l.r_inside l.power).is_exponent))
            (subst T (comes_again (level g marks) f.at) f.holds)),
      )

  -- every power was looked at
  pub turn_ends : exponent ≤ j → Raised (λ g. turn_test (morphism_at bytes n k) (level g marks) p r) before high
  turn_ends h = raised_same (λ g some. first_tell h g) l.raised

-- How far the search for an idempotent power has come: the invariant of its loop, and what it gives where the search ends.
-- Assumes nothing.
use Prim.Native.Nat.{ℕ, ◌+◌, ◌<◌}
use mathlib.Core.Path.{◌≡◌, refl, subst, ◌∙◌}
use mathlib.Core.List.{List}
use native.Mathlib.Omega.{arith}
use borrow.Author.Count.{below_more}
use Rattle.theory.specs.Rules.{Lawful}
use Rattle.theory.specs.Pairs.{Idempotent, power, LeastPower}
use Rattle.theory.proofs.IdempotentPowers.{power_add_one, none_idempotent_below}
use Rattle.formats.proofs.Tables.{Table}
use Rattle.formats.specs.Table.{product_at, morphism_at}
use Rattle.rule_table.proofs.Facts.{product_below}

-- p is the power of x with exponent i + 1, and no power with a smaller exponent is idempotent
pub record Tried (bytes : List ℕ) (n k x p i : ℕ) : Type 0 where
  pub table : Table bytes n k
  pub law : Lawful (morphism_at bytes n k)
  pub base : x < n
  pub inside : p < n
  pub is_power : p ≡ power (morphism_at bytes n k) x i
  pub none : (j : ℕ) → j < i → Idempotent (morphism_at bytes n k) (power (morphism_at bytes n k) x j) → ⊥

module _ {bytes : List ℕ} {n k x : ℕ} where
  -- no power was tried
  pub tried_start : Table bytes n k → Lawful (morphism_at bytes n k) → x < n → Tried bytes n k x x 0
  unfolding power
  tried_start t law h = record { table = t; law = law; base = h; inside = h; is_power = refl; none = λ j l. absurd (omega arith) }

  -- p is not its own square, and q is p times x
  pub tried_next : {p q r i : ℕ} → Tried bytes n k x p i → r ≡ product_at bytes n p p → (r ≡ p → ⊥) → q ≡ product_at bytes n p x
      → Tried bytes n k x q (i + 1)
  tried_next {p} {q} {r} {i} t s d e = record {
    table = t.table;
    law = t.law;
    base = t.base;
    inside = product_below t.table t.inside t.base e;
    is_power = cc (power_add_one (morphism_at bytes n k) x i);
    none = below_more (λ j. Idempotent (morphism_at bytes n k) (power (morphism_at bytes n k) x j) → ⊥) i t.none
        (λ g. d (let z : product_at bytes n p p ≡ p = rw t.is_power g.square in s ∙ z));
  }

  -- an idempotent power is found before n are tried
  pub tried_below : {p i : ℕ} → Tried bytes n k x p i → i < n
  tried_below t = none_idempotent_below t.law t.base t.none

  -- p is its own square
  pub tried_found : {p r i : ℕ} → Tried bytes n k x p i → r ≡ product_at bytes n p p → r ≡ p
      → LeastPower (morphism_at bytes n k) x p (i + 1)
  tried_found {p} {r} {i} t s e = record {
    exponent_is = record {
      index = i;
      below = tried_below t;
      is_exponent = refl;
      idempotent = subst (Idempotent (morphism_at bytes n k)) t.is_power (record { inside = t.inside; square = cc });
      least = t.none;
    };
    is_power = t.is_power;
  }

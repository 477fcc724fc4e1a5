-- Raising a number to the highest at which a test passes: one step after the other, and what passes among the numbers below a bound.
-- Assumes nothing.
use Prim.Native.Nat.{ℕ, ◌+◌, ◌≤◌, ◌<◌}
use native.Mathlib.Omega.{arith}
use mathlib.Core.Path.{◌≡◌, subst, sym}
use mathlib.Core.Bool.{Bool}
use mathlib.Core.Logic.{◌⊎◌, inl, inr, ◌↔◌, ⊎_elim}
use lib.Dec.{T, leb, leb→le, le→leb}
use Rattle.finite.specs.Search.{any_below}
use Rattle.finite.proofs.Numbers.{below_cases}
use Rattle.finite.proofs.Search.{any_intro, any_elim, any_zero}
use Rattle.lasso_powers.specs.Raising.{Raised}

-- the second number, if it is higher
pub raised_higher : {x y : ℕ} → x < y → Raised (λ g. leb g y) x y
raised_higher {x} {y} h = record {
  least = λ g some. (
    λ l. inr (le→leb g y l),
    λ k. ⊎_elim (λ (l : g ≤ x). let z : g ≤ y = omega arith in z) (λ t. leb→le g y t) k,
  );
}

pub raised_stays : {x y : ℕ} → y ≤ x → Raised (λ g. leb g y) x x
raised_stays {x} {y} h = record {
  least = λ g some. (
    λ l. inl l,
    λ k. ⊎_elim (λ l. l) (λ t. omega (arith, leb→le g y t)) k,
  );
}

-- no test was tried
pub raised_start : (p : ℕ → ℕ → Bool) (before : ℕ) → Raised (λ g. any_below 0 (p g)) before before
raised_start p before = record {
  least = λ g some. (
    λ l. inl l,
    λ k. ⊎_elim (λ l. l) (λ t. absurd (subst T (any_zero (p g)) t)) k,
  );
}

-- one more was tried
pub raised_next : (p : ℕ → ℕ → Bool) {q : ℕ → Bool} {j before high high' : ℕ} → Raised (λ g. any_below j (p g)) before high → Raised q high high'
    → ((g : ℕ) → q g ≡ p g j) → Raised (λ g. any_below (j + 1) (p g)) before high'
raised_next p {q} {j} {before} {high} {high'} a b same = record { least = λ g some. (to g some, from g some) }
  where
    to : (g : ℕ) → 1 ≤ g → g ≤ high' → (g ≤ before) ⊎ T (any_below (j + 1) (p g))
    to g some l =
        ⊎_elim (λ (k : g ≤ high).
        ⊎_elim (λ (i : g ≤ before). inl i) (λ t. let f = any_elim j (p g) t in inr (any_intro (j + 1) (p g) f.at (omega (arith, f.below)) f.holds)) ((a.least g some).0 k))
        (λ t. inr (any_intro (j + 1) (p g) j (omega arith) (subst T (same g) t))) ((b.least g some).0 l)

    from : (g : ℕ) → 1 ≤ g → (g ≤ before) ⊎ T (any_below (j + 1) (p g)) → g ≤ high'
    from g some k =
        ⊎_elim (λ (i : g ≤ before). (b.least g some).1 (inl ((a.least g some).1 (inl i))))
        (λ t.
        let f = any_elim (j + 1) (p g) t in
        ⊎_elim (λ (e : f.at ≡ j). (b.least g some).1 (inr (subst T (sym (same g)) (subst (λ (i : ℕ). T (p g i)) e f.holds))))
        (λ l. (b.least g some).1 (inl ((a.least g some).1 (inr (any_intro j (p g) f.at l f.holds)))))
        (below_cases (omega (arith, f.below)))) k

-- another test that passes where the one does
pub raised_same : {p q : ℕ → Bool} {before after : ℕ} → ((g : ℕ) → 1 ≤ g → T (p g) ↔ T (q g)) → Raised p before after → Raised q before after
raised_same {p} {q} {before} same a = record {
  least = λ g some. (
    λ l. ⊎_elim (λ (i : g ≤ before). inl i) (λ t. inr ((same g some).0 t)) ((a.least g some).0 l),
    λ k. (a.least g some).1 (⊎_elim (λ (i : g ≤ before). inl i) (λ t. inr ((same g some).1 t)) k),
  );
}

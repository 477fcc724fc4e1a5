-- The laws of temporal formulas: a step along the endless word, both ways, and by cases on what is decided. Assumes nothing.
use Prim.Native.Nat.{ℕ, zero, suc, ◌+◌, ◌-◌, ◌≤◌, ◌<◌}
use native.Mathlib.Omega.{arith}
use mathlib.Core.Path.{◌≡◌, refl, sym, ap, subst, ◌∙◌}
use mathlib.Core.Logic.{◌↔◌, inl, inr, ⊎_elim}
use mathlib.Core.List.{List}
use Rattle.theory.specs.Words.{Lasso, endless}
use Rattle.temporal.specs.Temporal.{RestAt}
use Rattle.temporal.specs.Formulas.{Formula, negation, both, either, next, until, always, HoldsFrom, HoldsUntil, Means}
use Rattle.temporal.proofs.Rests.{has_rest, rest_here}
use Rattle.temporal.proofs.Untils.{until_within}
use Rattle.temporal.proofs.Derived.{means_dec, holds_rest, always_means, release_means, weak_until_means}
use Rattle.temporal_laws.specs.Laws.{SameAt, ClosedUnder, FormulaLaws}

-- ---- a step along the endless word

module _ {k : ℕ} {u v u' v' : List ℕ} (one : RestAt k u v 1 u' v') where
  -- a rest of the rest is a rest one place further on, and the other way round
  further : {i : ℕ} {p w : List ℕ} → RestAt k u' v' i p w → RestAt k u v (suc i) p w
  further {i} r = record {
    lasso = r.lasso;
    same = λ j. r.same j ∙ one.same (i + j) ∙ ap (endless u v) (let e : 1 + (i + j) ≡ suc i + j = omega arith in e);
  }

  nearer : {i : ℕ} {p w : List ℕ} → RestAt k u v (suc i) p w → RestAt k u' v' i p w
  nearer {i} r = record {
    lasso = r.lasso;
    same = λ j. r.same j ∙ ap (endless u v) (let e : suc i + j ≡ 1 + (i + j) = omega arith in e) ∙ sym (one.same (i + j));
  }

  module _ {P : List ℕ → List ℕ → Type 0} where
    holds_further : {i : ℕ} → HoldsFrom k P u' v' i → HoldsFrom k P u v (suc i)
    holds_further a = record { start = a.start; cycle = a.cycle; rest = further a.rest; holds = a.holds }

    holds_nearer : {i : ℕ} → HoldsFrom k P u v (suc i) → HoldsFrom k P u' v' i
    holds_nearer a = record { start = a.start; cycle = a.cycle; rest = nearer a.rest; holds = a.holds }

-- at the first place the lasso itself is asked
module _ (k : ℕ) (f : Formula) (h : ℕ) (some : 1 ≤ h) {u v : List ℕ} (l : Lasso k u v) where
  first_place : HoldsFrom k (Means k f h) u v 0 ↔ Means k f h u v
  first_place = holds_rest k f h some (rest_here l (λ j. refl))

-- ---- until

module _ {k : ℕ} {P Q : List ℕ → List ℕ → Type 0} {u v u' v' : List ℕ} (one : RestAt k u v 1 u' v') where
  -- until from the next place on, with the first at this one
  until_further : HoldsFrom k P u v 0 → HoldsUntil k P Q u' v' → HoldsUntil k P Q u v
  until_further now a = record { place = suc a.place; reached = holds_further one a.reached; before = before }
    where
      before : (j : ℕ) → j < suc a.place → HoldsFrom k P u v j
      before zero h = now
      before (suc j) h = holds_further one (a.before j (omega arith))

  until_nearer : (place : ℕ) → HoldsFrom k Q u v (suc place) → ((j : ℕ) → j < suc place → HoldsFrom k P u v j) → HoldsUntil k P Q u' v'
  until_nearer place reached before = record { place = place; reached = holds_nearer one reached; before = λ j h. holds_nearer one (before (suc j) (omega arith)) }

module _ (k h : ℕ) (some : 1 ≤ h) (f g : Formula) where
  expanded : (u v : List ℕ) → Lasso k u v → (place : ℕ) → HoldsFrom k (Means k g h) u v place → ((j : ℕ) → j < place → HoldsFrom k (Means k f h) u v j)
      → Means k (either g (both f (next (until f g)))) h u v
  unfolding Means
  expanded u v l zero reached before = inl ((first_place k g h some l).0 reached)
  expanded u v l (suc place) reached before =
      let r = has_rest l 1 in
      inr (
        (first_place k f h some l).0 (before 0 (omega arith)),
        record { start = r.start; cycle = r.cycle; rest = r.is; holds = until_nearer r.is place reached before },
      )

  folded : (u v : List ℕ) → Lasso k u v → Means k (either g (both f (next (until f g)))) h u v → Means k (until f g) h u v
  unfolding Means
  folded u v l (inl now) = record { place = 0; reached = (first_place k g h some l).1 now; before = λ j j<0. absurd (let z : ⊥ = omega arith in z) }
  folded u v l (inr later) = until_further later.1.rest ((first_place k f h some l).1 later.0) later.1.holds

  until_expands : SameAt k h (until f g) (either g (both f (next (until f g))))
  unfolding Means
  until_expands = record { same = λ u v l. (λ a. expanded u v l a.place a.reached a.before, λ a. folded u v l a) }

  module _ (x : Formula) (c : ClosedUnder k h f g x) where
    least : (place : ℕ) (u v : List ℕ) → Lasso k u v → HoldsFrom k (Means k g h) u v place → ((j : ℕ) → j < place → HoldsFrom k (Means k f h) u v j) → Means k x h u v
    unfolding Means
    least zero u v l reached before = c.closed u v l (inl ((first_place k g h some l).0 reached))
    least (suc place) u v l reached before =
        let r = has_rest l 1 in
        let there = least place r.start r.cycle r.is.lasso (holds_nearer r.is reached) (λ j h. holds_nearer r.is (before (suc j) (omega arith))) in
        c.closed u v l (inr ((first_place k f h some l).0 (before 0 (omega arith)), record { start = r.start; cycle = r.cycle; rest = r.is; holds = there }))

    until_least : (u v : List ℕ) → Lasso k u v → Means k (until f g) h u v → Means k x h u v
    unfolding Means
    until_least u v l a = least a.place u v l a.reached a.before

-- ---- always

module _ (k h : ℕ) (some : 1 ≤ h) (high : h ≤ 3) (f : Formula) where
  always_expands : SameAt k h (always f) (both f (next (always f)))
  unfolding Means
  always_expands = record { same = λ u v l. (forth u v l, back u v l) }
    where
      forth : (u v : List ℕ) → Lasso k u v → Means k (always f) h u v → Means k (both f (next (always f))) h u v
      forth u v l a =
          let all = (always_means k f h some high l).0 a in
          let r = has_rest l 1 in (
            (first_place k f h some l).0 (all 0),
            record { start = r.start; cycle = r.cycle; rest = r.is; holds = (always_means k f h some high r.is.lasso).1 (λ i. holds_nearer r.is (all (suc i))) },
          )

      back : (u v : List ℕ) → Lasso k u v → Means k (both f (next (always f))) h u v → Means k (always f) h u v
      back u v l a = (always_means k f h some high l).1 at
        where
          at : (i : ℕ) → HoldsFrom k (Means k f h) u v i
          at zero = (first_place k f h some l).1 a.0
          at (suc i) = holds_further a.1.rest ((always_means k f h some high a.1.rest.lasso).0 a.1.holds i)

-- ---- not

module _ (k h : ℕ) (some : 1 ≤ h) (high : h ≤ 3) (f g : Formula) where
  not_both : SameAt k h (negation (both f g)) (either (negation f) (negation g))
  unfolding Means
  not_both = record { same = λ u v l. (forth u v l, back u v) }
    where
      forth : (u v : List ℕ) → Lasso k u v → Means k (negation (both f g)) h u v → Means k (either (negation f) (negation g)) h u v
      forth u v l a = go (means_dec k f (4 - h) (omega arith) l)
        where
          go : Dec (Means k f (4 - h) u v) → Means k (either (negation f) (negation g)) h u v
          go (yes x) = inr (high, λ y. a.1 (x, y))
          go (no x) = inl (high, x)

      back : (u v : List ℕ) → Means k (either (negation f) (negation g)) h u v → Means k (negation (both f g)) h u v
      back u v (inl a) = (high, λ x. a.1 x.0)
      back u v (inr a) = (high, λ x. a.1 x.1)

  not_either : SameAt k h (negation (either f g)) (both (negation f) (negation g))
  unfolding Means
  not_either = record { same = λ u v l. (λ a. ((high, λ x. a.1 (inl x)), (high, λ x. a.1 (inr x))), λ a. (high, λ x. ⊎_elim a.0.1 a.1.1 x)) }

module _ (k h : ℕ) (some : 1 ≤ h) (high : h ≤ 3) (f : Formula) where
  not_not : SameAt k h (negation (negation f)) f
  unfolding Means
  not_not = record { same = λ u v l. (forth u v l, back u v) }
    where
      twice : 4 - (4 - h) ≡ h
      twice = omega (arith, high)

      forth : (u v : List ℕ) → Lasso k u v → Means k (negation (negation f)) h u v → Means k f h u v
      forth u v l a = go (means_dec k f h some l)
        where
          go : Dec (Means k f h u v) → Means k f h u v
          go (yes x) = x
          go (no x) = absurd (a.1 (omega arith, λ y. x (subst (λ (n : ℕ). Means k f n u v) twice y)))

      back : (u v : List ℕ) → Means k f h u v → Means k (negation (negation f)) h u v
      back u v x = (high, λ a. a.1 (subst (λ (n : ℕ). Means k f n u v) (sym twice) x))

pub formula_laws : FormulaLaws
formula_laws = record {
  until_within = λ m₁ marks₁ m₂ marks₂ h u v some.
      (let e = until_within {m₁ = m₁} {m₂ = m₂} {marks₁ = marks₁} {marks₂ = marks₂} {g = h} {u = u} {v = v} some in
      (λ a. (let w = e.0 a in record { until_at = w.until; within = w.within }), λ a. a.until_at));
  always_expands = λ k h some high f. always_expands k h some high f;
  until_expands = λ k h some f g. until_expands k h some f g;
  until_least = λ k h some f g x c u v l a. until_least k h some f g x c u v l a;
  not_both = λ k h some high f g. not_both k h some high f g;
  not_either = λ k h some high f g. not_either k h some high f g;
  not_not = λ k h some high f. not_not k h some high f;
  weak_until_law = λ k h some high f g u v l. weak_until_means k f g h some high l;
  released = λ k h some high f g u v l. release_means k f g h some high l;
}

-- The product of matrices: entry (p, q) is the greatest entry among all pairs (p, r) and (r, q) with neither 0, and 0 if there
-- is no such r. Entries are compared by the numbers g ≥ 1 that they reach; the product is associative. Assumes nothing.
use Prim.Native.Nat.{ℕ, zero, suc, ◌≤◌, ◌<◌}
use mathlib.Core.Path.{◌≡◌, refl, sym, subst, ◌∙◌}
use mathlib.Core.Logic.{◌⊎◌, inl, inr, ⊎_elim}
use native.Mathlib.Nat.{not-suc-le-zero, le_antisymm, le-max_left, le-max_right, le_trans}
use native.Mathlib.Decide.{ℕ_discrete}
use native.Mathlib.Omega.{arith}
use Rattle.finite.proofs.Numbers.{below_cases, le_or_lt}
use Rattle.buchi.specs.Matrices.{Matrix, SameEntries, OtherEntry, entries_through, greatest, product}

-- ---- what the entries reach

-- both entries are above 0 and one reaches g
pub record Passes (g x y : ℕ) : Type 0 where
  pub left : 1 ≤ x
  pub right : 1 ≤ y
  pub either : (g ≤ x) ⊎ (g ≤ y)

pub through_intro : {g x y : ℕ} → Passes g x y → g ≤ entries_through x y
unfolding entries_through
through_intro {x = zero} k = absurd (not-suc-le-zero k.left)
through_intro {x = suc x} {y = zero} k = absurd (not-suc-le-zero k.right)
through_intro {x = suc x} {y = suc y} k = ⊎_elim (λ h. omega arith) (λ h. omega arith) k.either

pub through_elim : {g : ℕ} (x y : ℕ) → 1 ≤ g → g ≤ entries_through x y → Passes g x y
unfolding entries_through
through_elim zero y some h = absurd (omega arith)
through_elim (suc x) zero some h = absurd (omega arith)
through_elim {g} (suc x) (suc y) some h = record {
  left = omega arith;
  right = omega arith;
  either = ⊎_elim (λ l. inl l) (λ l. inr (omega arith)) (le_or_lt g (suc x));
}

-- a number below n at which f reaches g
pub record Reaches (n : ℕ) (f : ℕ → ℕ) (g : ℕ) : Type 0 where
  pub at : ℕ
  pub below : at < n
  pub enough : g ≤ f at

pub greatest_intro : {g : ℕ} (n : ℕ) (f : ℕ → ℕ) → Reaches n f g → g ≤ greatest n f
unfolding greatest
greatest_intro zero f k = absurd (not-suc-le-zero k.below)
greatest_intro {g} (suc n) f k =
    ⊎_elim
    (λ e. le_trans (subst (λ r. g ≤ f r) e k.enough) (le-max_left (f n) (greatest n f)))
    (λ l. le_trans (greatest_intro n f (record { at = k.at; below = l; enough = k.enough })) (le-max_right (f n) (greatest n f)))
    (below_cases k.below)

pub greatest_elim : {g : ℕ} (n : ℕ) (f : ℕ → ℕ) → 1 ≤ g → g ≤ greatest n f → Reaches n f g
unfolding greatest
greatest_elim zero f some h = absurd (omega arith)
greatest_elim {g} (suc n) f some h =
    ⊎_elim (λ l. record { at = n; below = omega arith; enough = l })
    (λ l.
    let k : Reaches n f g = greatest_elim n f some (omega arith) in
    record { at = k.at; below = omega arith; enough = k.enough })
    (le_or_lt g (f n))

-- a state through which two entries above 0 pass, one of which reaches g
pub record Via (n : ℕ) (M N : Matrix) (p q g : ℕ) : Type 0 where
  pub r : ℕ
  pub inside : r < n
  pub passes : Passes g (M p r) (N r q)

module _ (n : ℕ) (M N : Matrix) (p q : ℕ) where
  pub product_intro : {g : ℕ} → Via n M N p q g → g ≤ product n M N p q
  unfolding product
  product_intro k = greatest_intro n (λ r. entries_through (M p r) (N r q)) (record { at = k.r; below = k.inside; enough = through_intro k.passes })

  pub product_elim : {g : ℕ} → 1 ≤ g → g ≤ product n M N p q → Via n M N p q g
  unfolding product
  product_elim some h =
      let k = greatest_elim n (λ r. entries_through (M p r) (N r q)) some h in
      record { r = k.at; inside = k.below; passes = through_elim (M p k.at) (N k.at q) some k.enough }

-- numbers that reach the same numbers above 0
pub reach_le : {x y : ℕ} → ((g : ℕ) → 1 ≤ g → g ≤ x → g ≤ y) → x ≤ y
reach_le {x = zero} f = omega arith
reach_le {x = suc x} f = f (suc x) (omega arith) (omega arith)

pub reach_same : {x y : ℕ} → ((g : ℕ) → 1 ≤ g → g ≤ x → g ≤ y) → ((g : ℕ) → 1 ≤ g → g ≤ y → g ≤ x) → x ≡ y
reach_same f h = le_antisymm (reach_le f) (reach_le h)

-- ---- laws of the product

-- factors with the same entries have products with the same entries
one_way : {n : ℕ} {M M' N N' : Matrix} → SameEntries n M M' → SameEntries n N N' → {p q g : ℕ} → p < n → q < n → Via n M N p q g → Via n M' N' p q g
one_way {n} {M} {M'} {N} {N'} em en {p} {q} {g} hp hq k =
    let e : M p k.r ≡ M' p k.r = em.same p k.r hp k.inside in
    let e' : N k.r q ≡ N' k.r q = en.same k.r q k.inside hq in
    record { r = k.r; inside = k.inside; passes = rw (← e, ← e') k.passes }

pub same_refl : {n : ℕ} {M : Matrix} → SameEntries n M M
same_refl = record { same = λ p q hp hq. refl }

pub same_trans : {n : ℕ} {K M N : Matrix} → SameEntries n K M → SameEntries n M N → SameEntries n K N
same_trans e f = record { same = λ p q hp hq. e.same p q hp hq ∙ f.same p q hp hq }

pub same_sym : {n : ℕ} {M N : Matrix} → SameEntries n M N → SameEntries n N M
same_sym e = record { same = λ p q hp hq. sym (e.same p q hp hq) }

-- matrices do not both agree and differ
pub same_or_other : {n : ℕ} {M N : Matrix} → SameEntries n M N → ¬ OtherEntry n M N
same_or_other e d = d.other (e.same d.row d.column d.row_inside d.column_inside)

-- where different numbers have different matrices, the same entries are those of one number
pub equal_numbers : {n : ℕ} {M N : Matrix} {i j : ℕ} → (¬ (i ≡ j) → OtherEntry n M N) → SameEntries n M N → i ≡ j
equal_numbers {i = i} {j = j} apart e = pick (ℕ_discrete i j)
  where
    pick : Dec (i ≡ j) → i ≡ j
    pick (yes h) = h
    pick (no f) = absurd (same_or_other e (apart f))

pub product_same : {n : ℕ} {M M' N N' : Matrix} → SameEntries n M M' → SameEntries n N N' → SameEntries n (product n M N) (product n M' N')
product_same {n} {M} {M'} {N} {N'} em en = record {
  same = λ p q hp hq.
      reach_same (λ g some h. product_intro n M' N' p q (one_way em en hp hq (product_elim n M N p q some h)))
      (λ g some h. product_intro n M N p q (one_way (same_sym em) (same_sym en) hp hq (product_elim n M' N' p q some h)));
}

-- the product of three matrices, either way: two states through which three entries above 0 pass, one of which reaches g
record Via₂ (n : ℕ) (K M N : Matrix) (p q g : ℕ) : Type 0 where
  r : ℕ
  s : ℕ
  r_inside : r < n
  s_inside : s < n
  first : 1 ≤ K p r
  second : 1 ≤ M r s
  third : 1 ≤ N s q
  one : ((g ≤ K p r) ⊎ (g ≤ M r s)) ⊎ (g ≤ N s q)

module _ (n : ℕ) (K M N : Matrix) (p q : ℕ) where
  via_left : {g : ℕ} → Via₂ n K M N p q g → Via n (product n K M) N p q g
  via_left {g} k = record {
    r = k.s;
    inside = k.s_inside;
    passes = record {
      left = product_intro n K M p k.s (record { r = k.r; inside = k.r_inside; passes = record { left = k.first; right = k.second; either = inl k.first } });
      right = k.third;
      either =
          ⊎_elim (λ e. inl (product_intro n K M p k.s (record { r = k.r; inside = k.r_inside; passes = record { left = k.first; right = k.second; either = e } })))
          (λ h. inr h) k.one;
    };
  }

  via_right : {g : ℕ} → Via₂ n K M N p q g → Via n K (product n M N) p q g
  via_right {g} k = record {
    r = k.r;
    inside = k.r_inside;
    passes = record {
      left = k.first;
      right = tail (inl k.second);
      either = ⊎_elim (λ e. ⊎_elim (λ h. inl h) (λ h. inr (tail (inl h))) e) (λ h. inr (tail (inr h))) k.one;
    };
  }
    where
      tail : {f : ℕ} → (f ≤ M k.r k.s) ⊎ (f ≤ N k.s q) → f ≤ product n M N k.r q
      tail e = product_intro n M N k.r q (record { r = k.s; inside = k.s_inside; passes = record { left = k.second; right = k.third; either = e } })

  left_via : {g : ℕ} → 1 ≤ g → Via n (product n K M) N p q g → Via₂ n K M N p q g
  left_via {g} some k = ⊎_elim first last k.passes.either
    where
      first : g ≤ product n K M p k.r → Via₂ n K M N p q g
      first h =
          let j = product_elim n K M p k.r some h in
          record { r = j.r; s = k.r; r_inside = j.inside; s_inside = k.inside; first = j.passes.left; second = j.passes.right; third = k.passes.right; one = inl j.passes.either }

      last : g ≤ N k.r q → Via₂ n K M N p q g
      last h =
          let j = product_elim n K M p k.r (omega arith) k.passes.left in
          record { r = j.r; s = k.r; r_inside = j.inside; s_inside = k.inside; first = j.passes.left; second = j.passes.right; third = k.passes.right; one = inr h }

  right_via : {g : ℕ} → 1 ≤ g → Via n K (product n M N) p q g → Via₂ n K M N p q g
  right_via {g} some k = ⊎_elim first last k.passes.either
    where
      first : g ≤ K p k.r → Via₂ n K M N p q g
      first h =
          let j = product_elim n M N k.r q (omega arith) k.passes.right in
          record { r = k.r; s = j.r; r_inside = k.inside; s_inside = j.inside; first = k.passes.left; second = j.passes.left; third = j.passes.right; one = inl (inl h) }

      last : g ≤ product n M N k.r q → Via₂ n K M N p q g
      last h =
          let j = product_elim n M N k.r q some h in
          record {
            r = k.r;
            s = j.r;
            r_inside = k.inside;
            s_inside = j.inside;
            first = k.passes.left;
            second = j.passes.left;
            third = j.passes.right;
            one = ⊎_elim (λ e. inl (inr e)) (λ e. inr e) j.passes.either;
          }

  -- the product is associative
  pub product_associative : product n (product n K M) N p q ≡ product n K (product n M N) p q
  product_associative =
      reach_same (λ g some h. product_intro n K (product n M N) p q (via_right (left_via some (product_elim n (product n K M) N p q some h))))
      (λ g some h. product_intro n (product n K M) N p q (via_left (right_via some (product_elim n K (product n M N) p q some h))))

-- along a word: where T is the product of K and M, and Y that of M and N, the product of K and Y is that of T and N
pub product_along : {n : ℕ} (K M N : Matrix) {T Y R : Matrix} → SameEntries n (product n K M) T → SameEntries n (product n M N) Y → SameEntries n (product n T N) R
    → SameEntries n (product n K Y) R
product_along {n} K M N t y r =
    same_trans (product_same same_refl (same_sym y))
    (same_trans (same_sym (record { same = λ p q hp hq. product_associative n K M N p q }))
    (same_trans (product_same t same_refl) r))

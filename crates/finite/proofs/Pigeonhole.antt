-- The pigeonhole principle on the numbers below a bound: n + 1 numbers with values below n have two with one value,
-- an injection does not shrink, and an injection of a bounded set into itself reaches all of it. Assumes nothing.
use mathlib.Core.Path.{◌≡◌, sym, ◌∙◌}
use mathlib.Core.Bool.{cond}
use mathlib.Core.Logic.{◌⊎◌, inl, inr, ◌≢◌, ⊎_elim}
use Prim.Native.Nat.{ℕ, zero, suc, ◌≤◌, ◌<◌}
use native.Mathlib.Nat.{not-suc-le-zero}
use native.Mathlib.Decide.{ℕ_discrete}
use native.Mathlib.Omega.{arith}
use borrow.Author.Tests.{eq-eqb, ne_eqb}
use lib.Dec.{eqb}
use Rattle.finite.proofs.Numbers.{le_or_lt}
use Rattle.finite.proofs.Search.{First, least_dec}

-- two numbers up to n with the same value
pub record Collision (n : ℕ) (f : ℕ → ℕ) : Type 0 where
  pub i : ℕ
  pub j : ℕ
  pub order : i < j
  pub below : j ≤ n
  pub same : f i ≡ f j

-- f maps the numbers below m to numbers below n, different ones to different ones
pub record Injection (m n : ℕ) (f : ℕ → ℕ) : Type 0 where
  pub maps : (i : ℕ) → i < m → f i < n
  pub apart : (i j : ℕ) → i < m → j < m → f i ≡ f j → i ≡ j

-- f with the value y at n
unfoldable pub update : (ℕ → ℕ) → ℕ → ℕ → ℕ → ℕ
update f n y x = cond (eqb x n) y (f x)

module _ (f : ℕ → ℕ) (n y x : ℕ) where
  pub update_same : x ≡ n → update f n y x ≡ y
  unfolding update
  update_same e = rw (eq-eqb x n e)

  pub update_other : x ≢ n → update f n y x ≡ f x
  unfolding update
  update_other h = rw (ne_eqb x n h)

  -- either x is n, or x keeps its value
  pub update_cases : ((x ≡ n) × (update f n y x ≡ y)) ⊎ ((x ≢ n) × (update f n y x ≡ f x))
  update_cases = go (ℕ_discrete x n)
    where
      go : Dec (x ≡ n) → ((x ≡ n) × (update f n y x ≡ y)) ⊎ ((x ≢ n) × (update f n y x ≡ f x))
      go (yes e) = inl (e, update_same e)
      go (no h) = inr (h, update_other h)

-- where y is no value of f at x or x' unless there f is changed, equal values come from equal numbers or from f
pub update_apart : (f : ℕ → ℕ) (n y x x' : ℕ) → (x ≢ n → f x ≢ y) → (x' ≢ n → f x' ≢ y) → update f n y x ≡ update f n y x' → (x ≡ x') ⊎ ((x ≢ n) × (x' ≢ n) × (f x ≡ f x'))
update_apart f n y x x' new new' e =
    ⊎_elim
    (λ c.
    ⊎_elim (λ c'. inl (c.0 ∙ sym c'.0)) (λ c'. absurd (new' c'.0 (sym c'.1 ∙ sym e ∙ c.1))) (update_cases f n y x'))
    (λ c.
    ⊎_elim (λ c'. absurd (new c.0 (sym c.1 ∙ e ∙ c'.1)))
    (λ c'. inr (c.0, c'.0, sym c.1 ∙ e ∙ c'.1))
    (update_cases f n y x'))
    (update_cases f n y x)

-- the values of f below m + 1, where the value m is replaced by that of f at m + 1
shrink : ℕ → (ℕ → ℕ) → ℕ → ℕ
shrink m f i = update (λ x. x) m (f (suc m)) (f i)

module _ (m : ℕ) (f : ℕ → ℕ) (maps : (i : ℕ) → i ≤ suc m → f i < suc m) (alone : (i : ℕ) → i < suc m → ¬ (f i ≡ f (suc m))) where
  shrink_maps : (i : ℕ) → i ≤ m → shrink m f i < m
  unfolding shrink
  shrink_maps i h =
      ⊎_elim (λ c. omega (arith, c.0, c.1, alone i (omega arith), maps (suc m) (omega arith)))
      (λ c. omega (arith, c.0, c.1, maps i (omega arith)))
      (update_cases (λ x. x) m (f (suc m)) (f i))

  shrink_apart : (i j : ℕ) → i ≤ m → j ≤ m → shrink m f i ≡ shrink m f j → f i ≡ f j
  unfolding shrink
  shrink_apart i j h l e =
      ⊎_elim (λ q. q) (λ c. c.2)
      (update_apart (λ x. x) m (f (suc m)) (f i) (f j) (λ n. alone i (omega arith)) (λ n. alone j (omega arith)) e)

-- n + 1 numbers with values below n: two have the same value
pub pigeonhole : (n : ℕ) (f : ℕ → ℕ) → ((i : ℕ) → i ≤ n → f i < n) → Collision n f
pigeonhole zero f maps = absurd (not-suc-le-zero (maps 0 (omega arith)))
pigeonhole (suc m) f maps = ⊎_elim found (λ alone. lifted alone (pigeonhole m (shrink m f) (shrink_maps m f maps alone))) (least_dec (suc m) (λ i h. ℕ_discrete (f i) (f (suc m))))
  where
    found : First (suc m) (λ i. f i ≡ f (suc m)) → Collision (suc m) f
    found c = record { i = c.at; j = suc m; order = c.below; below = omega arith; same = c.holds }

    lifted : ((i : ℕ) → i < suc m → ¬ (f i ≡ f (suc m))) → Collision m (shrink m f) → Collision (suc m) f
    lifted alone c = record {
      i = c.i;
      j = c.j;
      order = c.order;
      below = omega arith;
      same = shrink_apart m f maps alone c.i c.j (omega arith) (omega arith) c.same;
    }

-- an injection does not shrink
pub injection_le : {m n : ℕ} {f : ℕ → ℕ} → Injection m n f → m ≤ n
injection_le {m} {n} {f} e =
    ⊎_elim (λ h. h) (λ l. absurd (refute l (pigeonhole n f (λ i h. e.maps i (omega arith))))) (le_or_lt m n)
  where
    refute : n < m → Collision n f → ⊥
    refute l c = omega (arith, c.order, e.apart c.i c.j (omega arith) (omega arith) c.same)

-- an injection of the numbers below n into themselves reaches each of them
pub injection_onto : {n : ℕ} {f : ℕ → ℕ} → Injection n n f → (y : ℕ) → y < n → (x : ℕ) × (x < n) × (f x ≡ y)
injection_onto {n} {f} e y h = ⊎_elim (λ c. (c.at, c.below, c.holds)) (λ none. absurd (omega (arith, injection_le (longer none)))) (least_dec n (λ x l. ℕ_discrete (f x) y))
  where
    longer : ((x : ℕ) → x < n → ¬ (f x ≡ y)) → Injection (suc n) n (update f n y)
    longer none = record {
      maps = λ i l. ⊎_elim (λ c. omega (arith, c.1)) (λ c. omega (arith, c.0, c.1, e.maps i (omega (arith, c.0)))) (update_cases f n y i);
      apart = λ i j l r q.
          ⊎_elim (λ s. s) (λ c. e.apart i j (omega (arith, c.0)) (omega (arith, c.1)) c.2)
          (update_apart f n y i j (λ o. none i (omega arith)) (λ o. none j (omega arith)) q);
    }

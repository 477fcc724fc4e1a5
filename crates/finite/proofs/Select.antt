-- Laws of the list of what a function gives at the numbers that pass a test. Assumes nothing.
use mathlib.Core.Path.{◌≡◌, refl, sym, ap, ◌∙◌, subst}
use mathlib.Core.Bool.{Bool, true, false, cond}
use mathlib.Core.Logic.{⊎_elim}
use mathlib.Core.List.Memᴰ
use mathlib.Core.List.{◌∷◌, Memᴰ}
use Prim.Native.Nat.{ℕ, zero, suc, ◌+◌, ◌≤◌, ◌<◌}
use native.Mathlib.Omega.{arith}
use native.Mathlib.Nat.{eq-or-lt_of_le}
use lib.Dec.{T}
use Rattle.finite.specs.Select.{select_from, select}
use Rattle.finite.proofs.Tests.{true_T}

-- y is f at a number below n that passes p
pub record Selected {A : Type 0} (n : ℕ) (p : ℕ → Bool) (f : ℕ → A) (y : A) : Type 0 where
  pub at : ℕ
  pub below : at < n
  pub passes : T (p at)
  pub same : f at ≡ y

module _ {A : Type 0} (p : ℕ → Bool) (f : ℕ → A) where
  select_from_intro : (k i j : ℕ) → i ≤ j → j < i + k → T (p j) → Memᴰ (f j) (select_from k i p f)
  unfolding select_from
  select_from_intro zero i j l h t = absurd (let z : ⊥ = omega arith in z)
  select_from_intro (suc k) i j l h t = ⊎_elim (here (p i) refl) (λ m. later (p i) (select_from_intro k (suc i) j m (omega arith) t)) (eq-or-lt_of_le l)
    where
      here : (b : Bool) → p i ≡ b → i ≡ j → Memᴰ (f j) (cond b (f i ∷ select_from k (suc i) p f) (select_from k (suc i) p f))
      here true e q = Memᴰ.head (ap f (sym q))
      here false e q = absurd (subst T (ap p (sym q) ∙ e) t)

      later : (b : Bool) → Memᴰ (f j) (select_from k (suc i) p f) → Memᴰ (f j) (cond b (f i ∷ select_from k (suc i) p f) (select_from k (suc i) p f))
      later true m = Memᴰ.tail m
      later false m = m

  select_from_elim : (k i : ℕ) (y : A) → Memᴰ y (select_from k i p f) → Selected (i + k) p f y
  unfolding select_from
  select_from_elim zero i y m = absurd (Memᴰ.not-nil m)
  select_from_elim (suc k) i y m = go (p i) refl (select_from_elim k (suc i) y) m
    where
      wider : Selected (suc i + k) p f y → Selected (i + suc k) p f y
      wider r = record { at = r.at; below = omega arith; passes = r.passes; same = r.same }

      go : (b : Bool) → p i ≡ b → (Memᴰ y (select_from k (suc i) p f) → Selected (suc i + k) p f y)
          → Memᴰ y (cond b (f i ∷ select_from k (suc i) p f) (select_from k (suc i) p f)) → Selected (i + suc k) p f y
      go true e rest q =
          ⊎_elim (λ g. record { at = i; below = omega arith; passes = true_T e; same = sym g }) (λ r. wider (rest r)) (Memᴰ.cases_cons q)
      go false e rest q = wider (rest q)

  -- what passes is in the list
  pub select_intro : {n : ℕ} {y : A} → Selected n p f y → Memᴰ y (select n p f)
  unfolding select
  select_intro {n} s = Memᴰ.cast (sym s.same) (select_from_intro n 0 s.at (omega arith) (omega (arith, s.below)) s.passes)

  -- and nothing else
  pub select_elim : (n : ℕ) (y : A) → Memᴰ y (select n p f) → Selected n p f y
  unfolding select
  select_elim n y m =
      let r = select_from_elim n 0 y m in
      record { at = r.at; below = omega arith; passes = r.passes; same = r.same }

-- The numbers below a bound that pass a test, listed in rising order: each stands there once, and no other number does. And
-- the list grows at its end, by one number or by a stretch of them. Assumes nothing.
use Prim.Native.Nat.{ℕ, zero, suc, ◌+◌, ◌≤◌, ◌<◌}
use mathlib.Core.Path.{◌≡◌, refl, sym, ap, ap₂, subst, ◌∙◌}
use mathlib.Core.Bool.{Bool, true, false, cond}
use mathlib.Core.Logic.{⊎_elim}
use mathlib.Core.List.{List, [], ◌∷◌, ◌++◌}
use native.Mathlib.Omega.{arith}
use native.Mathlib.Nat.{add-zero, zero-add, suc-add, eq-or-lt_of_le}
use lib.Dec.{T}
use lib.ListN.{length, get_or}
use Rattle.finite.proofs.Tests.{true_T}
use Rattle.finite.specs.Select.{select_from}

-- where a number stands in a list
pub record Place (xs : List ℕ) (x : ℕ) : Type 0 where
  pub at : ℕ
  pub inside : at < length xs
  pub is : get_or xs at 0 ≡ x

-- x is one of the k numbers from i on, and passes
pub record Among (p : ℕ → Bool) (i k x : ℕ) : Type 0 where
  pub low : i ≤ x
  pub high : x < i + k
  pub passes : T (p x)

-- the k numbers from i on that pass, in rising order
pub record Listed (p : ℕ → Bool) (i k : ℕ) (xs : List ℕ) : Type 0 where
  pub short : length xs ≤ k
  pub each : (j : ℕ) → j < length xs → Among p i k (get_or xs j 0)
  pub rising : (j j' : ℕ) → j < j' → j' < length xs → get_or xs j 0 < get_or xs j' 0
  pub found : (x : ℕ) → Among p i k x → Place xs x

-- none of no numbers
listed_none : (p : ℕ → Bool) (i : ℕ) → Listed p i 0 []
listed_none p i = record {
  short = omega arith;
  each = λ j h. absurd (let z : ⊥ = omega arith in z);
  rising = λ j j' h h'. absurd (let z : ⊥ = omega arith in z);
  found = λ x a. absurd (let z : ⊥ = omega arith in z);
}

module _ {p : ℕ → Bool} {i k : ℕ} {xs : List ℕ} (rest : Listed p (suc i) k xs) where
  wider : {x : ℕ} → Among p (suc i) k x → Among p i (suc k) x
  wider a = record { low = omega arith; high = omega arith; passes = a.passes }

  narrower : {x : ℕ} → i < x → Among p i (suc k) x → Among p (suc i) k x
  narrower h a = record { low = h; high = omega arith; passes = a.passes }

  -- one number before them that passes
  listed_in : T (p i) → Listed p i (suc k) (i ∷ xs)
  listed_in t = record { short = omega (arith, rest.short); each = each; rising = rising; found = found }
    where
      each : (j : ℕ) → j < length (i ∷ xs) → Among p i (suc k) (get_or (i ∷ xs) j 0)
      each zero h = record { low = omega arith; high = omega arith; passes = t }
      each (suc j) h = wider (rest.each j (omega arith))

      rising : (j j' : ℕ) → j < j' → j' < length (i ∷ xs) → get_or (i ∷ xs) j 0 < get_or (i ∷ xs) j' 0
      rising j zero h h' = absurd (let z : ⊥ = omega arith in z)
      rising zero (suc j') h h' = (rest.each j' (omega arith)).low
      rising (suc j) (suc j') h h' = rest.rising j j' (omega arith) (omega arith)

      later : {x : ℕ} → Place xs x → Place (i ∷ xs) x
      later w = record { at = suc w.at; inside = omega arith; is = w.is }

      found : (x : ℕ) → Among p i (suc k) x → Place (i ∷ xs) x
      found x a =
          ⊎_elim (λ e. record { at = 0; inside = omega arith; is = e })
          (λ h. later (rest.found x (narrower h a)))
          (eq-or-lt_of_le a.low)

  -- one number before them that fails
  listed_out : ¬ T (p i) → Listed p i (suc k) xs
  listed_out f = record {
    short = omega (arith, rest.short);
    each = λ j h. wider (rest.each j h);
    rising = rest.rising;
    found = λ x a. ⊎_elim
        (λ e. absurd (f (subst (λ (y : ℕ). T (p y)) (sym e) a.passes)))
        (λ h. rest.found x (narrower h a))
        (eq-or-lt_of_le a.low);
  }

-- what is selected is listed
pub select_listed : (p : ℕ → Bool) (i k : ℕ) → Listed p i k (select_from k i p (λ j. j))
unfolding select_from
select_listed p i zero = listed_none p i
select_listed p i (suc k) = go (p i) refl (select_listed p (suc i) k)
  where
    go : (b : Bool) → p i ≡ b → Listed p (suc i) k (select_from k (suc i) p (λ j. j))
        → Listed p i (suc k) (cond b (i ∷ select_from k (suc i) p (λ j. j)) (select_from k (suc i) p (λ j. j)))
    go true e rest = listed_in rest (true_T e)
    go false e rest = listed_out rest (λ t. subst T e t)

-- two stretches in a row
pub select_more : (p : ℕ → Bool) (i j k : ℕ) → select_from (j + k) i p (λ x. x) ≡ select_from j i p (λ x. x) ++ select_from k (i + j) p (λ x. x)
unfolding select_from
select_more p i zero k = rw (zero-add, add-zero)
select_more p i (suc j) k =
    ap (λ (n : ℕ). select_from n i p (λ x. x)) (suc-add j k)
    ∙ ap (λ (l : List ℕ). cond (p i) (i ∷ l) l)
    (select_more p (suc i) j k
    ∙ ap (λ (n : ℕ). select_from j (suc i) p (λ x. x) ++ select_from k n p (λ x. x)) (let e : suc i + j ≡ i + suc j = omega arith in e))
    ∙ go (p i) _ _
  where
    go : (b : Bool) (x y : List ℕ) → cond b (i ∷ (x ++ y)) (x ++ y) ≡ cond b (i ∷ x) x ++ y
    go true x y = refl
    go false x y = refl

-- tests that agree on the stretch select the same numbers
pub select_same : (p q : ℕ → Bool) (i k : ℕ) → ((x : ℕ) → i ≤ x → x < i + k → p x ≡ q x)
    → select_from k i p (λ x. x) ≡ select_from k i q (λ x. x)
unfolding select_from
select_same p q i zero h = refl
select_same p q i (suc k) h =
    ap₂ (λ (b : Bool) (l : List ℕ). cond b (i ∷ l) l)
    (h i (omega arith) (omega arith))
    (select_same p q (suc i) k (λ x low high. h x (omega arith) (omega arith)))

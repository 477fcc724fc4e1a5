-- How many numbers below a bound pass a test. Assumes nothing.
use mathlib.Core.Path.{◌≡◌, refl, subst, sym, ap}
use mathlib.Core.Bool.{Bool, true, false}
use mathlib.Core.Logic.{⊎_elim, ◌↔◌}
use Prim.Native.Nat.{ℕ, zero, suc, ◌+◌, ◌≤◌, ◌<◌}
use native.Mathlib.Nat.{not-suc-le-zero, le_antisymm}
use native.Mathlib.Numerals.{add-one}
use native.Mathlib.Omega.{arith}
use lib.Dec.{T}
use Rattle.finite.proofs.Numbers.{below_cases}
use Rattle.finite.proofs.Tests.{T_dec, T_true, T_false}

-- 1 for a test that passes, 0 for one that fails
abbrev pub bit : Bool → ℕ
bit true = 1
bit false = 0

pub bit_le : (b : Bool) → bit b ≤ 1
bit_le true = omega arith
bit_le false = omega arith

pub bit_passes : (b : Bool) → T b ↔ (0 < bit b)
bit_passes true = (λ t. omega arith, λ h. tt)
bit_passes false = (λ t. absurd t, λ h. omega arith)

bit_mono : (a b : Bool) → (T a → T b) → bit a ≤ bit b
bit_mono true true h = omega arith
bit_mono true false h = absurd (h tt)
bit_mono false b h = omega arith

bit_strict : (a b : Bool) → T b → ¬ T a → bit a < bit b
bit_strict true b t h = absurd (h tt)
bit_strict false true t h = omega arith
bit_strict false false t h = absurd t

-- how many i below n pass p
unfoldable pub count_below : ℕ → (ℕ → Bool) → ℕ
count_below zero p = 0
count_below (suc n) p = count_below n p + bit (p n)

pub count_zero : (p : ℕ → Bool) → count_below 0 p ≡ 0
unfolding count_below
count_zero p = refl

module _ (n : ℕ) (p : ℕ → Bool) where
  -- one number more
  pub count_suc : count_below (suc n) p ≡ count_below n p + bit (p n)
  unfolding count_below
  count_suc = refl

  pub count_add_one : count_below (n + 1) p ≡ count_below n p + bit (p n)
  count_add_one = rw add-one count_suc

  -- one number more, which passes or fails
  pub count_in_lem : T (p n) → count_below (suc n) p ≡ suc (count_below n p)
  count_in_lem t = omega (arith, count_suc, ap bit (T_true (p n) t))

  pub count_out : ¬ T (p n) → count_below (suc n) p ≡ count_below n p
  count_out h = omega (arith, count_suc, ap bit (T_false (p n) h))

pub count_le : (n : ℕ) (p : ℕ → Bool) → count_below n p ≤ n
unfolding count_below
count_le zero p = omega arith
count_le (suc n) p = omega (arith, count_le n p, bit_mono (p n) true (λ t. tt))

-- where as many pass as there are, all pass
pub count_all : (n : ℕ) (p : ℕ → Bool) → n ≤ count_below n p → (i : ℕ) → i < n → T (p i)
count_all zero p h i l = absurd (not-suc-le-zero l)
count_all (suc n) p h i l =
    ⊎_elim
    (λ t.
    ⊎_elim (λ e. subst (λ (k : ℕ). T (p k)) (sym e) t)
    (λ q. count_all n p (omega (arith, count_in_lem n p t)) i q)
    (below_cases l))
    (λ f. absurd (omega (arith, count_out n p f, count_le n p)))
    (T_dec (p n))

-- no fewer pass q than p where p implies q
pub count_mono : (n : ℕ) (p q : ℕ → Bool) → ((i : ℕ) → i < n → T (p i) → T (q i)) → count_below n p ≤ count_below n q
unfolding count_below
count_mono zero p q h = omega arith
count_mono (suc n) p q h =
    let rest : count_below n p ≤ count_below n q = count_mono n p q (λ i l. h i (omega arith)) in
    omega (arith, bit_mono (p n) (q n) (h n (omega arith)))

-- fewer pass p than q where p implies q and some number passes q alone
pub count_strict : (n : ℕ) (p q : ℕ → Bool) → ((i : ℕ) → i < n → T (p i) → T (q i)) → (i : ℕ) → i < n → T (q i) → ¬ T (p i) → count_below n p < count_below n q
unfolding count_below
count_strict zero p q h i l t f = absurd (not-suc-le-zero l)
count_strict (suc n) p q h i l t f =
    let rest : (i : ℕ) → i < n → T (p i) → T (q i) = λ i l. h i (omega arith) in
    ⊎_elim
    (λ e.
    omega (arith, count_mono n p q rest, bit_strict (p n) (q n) (subst (λ (k : ℕ). T (q k)) e t) (λ s. f (subst (λ (k : ℕ). T (p k)) (sym e) s))))
    (λ r. omega (arith, count_strict n p q rest i r t f, bit_mono (p n) (q n) (h n (omega arith))))
    (below_cases l)

-- tests that agree below n have the same count
pub count_same : (n : ℕ) (p q : ℕ → Bool) → ((i : ℕ) → i < n → p i ≡ q i) → count_below n p ≡ count_below n q
count_same n p q h =
    le_antisymm (count_mono n p q (λ i l t. subst T (h i l) t)) (count_mono n q p (λ i l t. subst T (sym (h i l)) t))

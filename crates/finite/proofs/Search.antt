-- Searching the numbers below a bound: whether some or all of them pass a test, the least that does,
-- and the same search for a predicate that is decided. How many pass is in Count, whose names this file passes on. Assumes nothing.
use mathlib.Core.Path.{◌≡◌, refl, subst, sym, ap, ◌∙◌}
use mathlib.Core.Bool.{Bool, true, false, not, cond, ◌&&◌, ◌||◌}
use mathlib.Core.Logic.Dec
use mathlib.Core.Logic.{◌⊎◌, inl, inr, ⊎_elim, by_cases}
use Prim.Native.Nat.{ℕ, zero, suc, ◌+◌, ◌≤◌, ◌<◌, zero-le}
use native.Mathlib.Nat.{not-suc-le-zero, eq-or-lt_of_le}
use native.Mathlib.Numerals.{add-one}
use native.Mathlib.Omega.{arith}
use borrow.Author.Tests.{ltb-true, ltb-false}
use lib.Dec.{T, ltb}
use Rattle.finite.specs.Search.{any_below}
use Rattle.finite.proofs.Numbers.{below_cases, le_or_lt, Compared, lesser, level, greater, compared_numbers}
use Rattle.finite.proofs.Tests.{T_and, T_and_left, T_and_right, T_or_left, T_or_right, T_or_cases, T_not, T_dec, true_T}
unfoldable pub use Rattle.finite.proofs.Count.{count_below}
pub use Rattle.finite.proofs.Count.{bit, bit_le, bit_passes, count_zero, count_suc, count_add_one, count_in_lem, count_out, count_le, count_all, count_mono, count_strict, count_same}

-- every i below n passes p
unfoldable pub all_below : ℕ → (ℕ → Bool) → Bool
all_below zero p = true
all_below (suc n) p =
    let rest = all_below n p in
    p n && rest

-- the first of the k numbers from i on that passes p, i + k where none does
unfoldable pub least_from : ℕ → ℕ → (ℕ → Bool) → ℕ
least_from zero i p = i
least_from (suc k) i p =
    let rest = least_from k (suc i) p in
    cond (p i) i rest

-- the least i below n that passes p, n where none does
unfoldable pub least_below : ℕ → (ℕ → Bool) → ℕ
least_below n p = least_from n 0 p

-- a number below n that passes p
pub record Found (n : ℕ) (p : ℕ → Bool) : Type 0 where
  pub at : ℕ
  pub below : at < n
  pub holds : T (p at)

pub found_more : {n : ℕ} {p : ℕ → Bool} → Found n p → Found (suc n) p
found_more f = record { at = f.at; below = omega arith; holds = f.holds }

pub found_last : (n : ℕ) (p : ℕ → Bool) → T (p n) → Found (suc n) p
found_last n p t = record { at = n; below = omega arith; holds = t }

-- each search below 0
module _ (p : ℕ → Bool) where
  pub any_zero : any_below 0 p ≡ false
  unfolding any_below
  any_zero = refl

  pub all_zero : all_below 0 p ≡ true
  unfolding all_below
  all_zero = refl

  pub least_zero : least_below 0 p ≡ 0
  unfolding least_below least_from
  least_zero = refl

-- some and all, with one number more
module _ (n : ℕ) (p : ℕ → Bool) where
  pub any_suc : any_below (suc n) p ≡ p n || any_below n p
  unfolding any_below
  any_suc = refl

  pub any_add_one : any_below (n + 1) p ≡ p n || any_below n p
  any_add_one = rw add-one any_suc

  pub all_suc : all_below (suc n) p ≡ p n && all_below n p
  unfolding all_below
  all_suc = refl

  pub all_add_one : all_below (n + 1) p ≡ p n && all_below n p
  all_add_one = rw add-one all_suc

-- anyBelow is true exactly where a number is found
pub any_intro : (n : ℕ) (p : ℕ → Bool) (i : ℕ) → i < n → T (p i) → T (any_below n p)
unfolding any_below
any_intro zero p i h t = absurd (not-suc-le-zero h)
any_intro (suc n) p i h t =
    ⊎_elim (λ e. T_or_left (p n) (any_below n p) (subst (λ (k : ℕ). T (p k)) e t))
    (λ l. T_or_right (p n) (any_below n p) (any_intro n p i l t))
    (below_cases h)

pub any_elim : (n : ℕ) (p : ℕ → Bool) → T (any_below n p) → Found n p
unfolding any_below
any_elim zero p t = absurd t
any_elim (suc n) p t =
    ⊎_elim (λ s. found_last n p s) (λ s. found_more (any_elim n p s)) (T_or_cases (p n) (any_below n p) t)

-- some number below n passes p, or none does
pub found_or_none : (n : ℕ) (p : ℕ → Bool) → Found n p ⊎ ((i : ℕ) → i < n → ¬ T (p i))
found_or_none n p =
    ⊎_elim (λ t. inl (any_elim n p t)) (λ f. inr (λ i h t. f (any_intro n p i h t))) (T_dec (any_below n p))

-- all_below is true exactly where every number below n passes
pub all_intro : (n : ℕ) (p : ℕ → Bool) → ((i : ℕ) → i < n → T (p i)) → T (all_below n p)
unfolding all_below
all_intro zero p h = tt
all_intro (suc n) p h =
    T_and (p n) (all_below n p) (h n (omega arith)) (all_intro n p (λ i l. h i (omega arith)))

pub all_elim : (n : ℕ) (p : ℕ → Bool) → T (all_below n p) → (i : ℕ) → i < n → T (p i)
unfolding all_below
all_elim zero p t i h = absurd (not-suc-le-zero h)
all_elim (suc n) p t i h =
    ⊎_elim (λ e. subst (λ (k : ℕ). T (p k)) (sym e) (T_and_left (p n) (all_below n p) t))
    (λ l. all_elim n p (T_and_right (p n) (all_below n p) t) i l)
    (below_cases h)

-- every number below n passes p, or one of them fails it
pub all_or_not : (n : ℕ) (p : ℕ → Bool) → ((i : ℕ) → i < n → T (p i)) ⊎ Found n (λ i. not (p i))
all_or_not n p =
    ⊎_elim (λ f. inr f)
    (λ none. inl (λ i h. ⊎_elim (λ t. t) (λ f. absurd (none i h (T_not (p i) f))) (T_dec (p i))))
    (found_or_none n (λ i. not (p i)))

-- l is the least number from i on that passes p, or i + k where the k numbers from i on all fail
pub record Least (i k : ℕ) (p : ℕ → Bool) (l : ℕ) : Type 0 where
  pub low : i ≤ l
  pub high : l ≤ i + k
  pub holds : l < i + k → T (p l)
  pub first : (j : ℕ) → i ≤ j → j < l → ¬ T (p j)

pub least_from_lem : (k i : ℕ) (p : ℕ → Bool) → Least i k p (least_from k i p)
unfolding least_from
least_from_lem zero i p = record {
  low = omega arith;
  high = omega arith;
  holds = λ h. absurd (omega arith);
  first = λ j g h. absurd (omega arith);
}
least_from_lem (suc k) i p = go (p i) refl (least_from_lem k (suc i) p)
  where
    go : (b : Bool) → p i ≡ b → Least (suc i) k p (least_from k (suc i) p) → Least i (suc k) p (cond b i (least_from k (suc i) p))
    go true e r = record {
      low = omega arith;
      high = omega arith;
      holds = λ h. subst T (sym e) tt;
      first = λ j g h. absurd (omega arith);
    }
    go false e r = record {
      low = omega arith;
      high = omega arith;
      holds = λ h. r.holds (omega arith);
      first = λ j g h t.
          ⊎_elim (λ (q : i ≡ j). subst T (ap p (sym q) ∙ e) t) (λ l. r.first j l h t) (eq-or-lt_of_le g);
    }

module _ (n : ℕ) (p : ℕ → Bool) where
  least : Least 0 n p (least_below n p)
  unfolding least_below
  least = least_from_lem n 0 p

  pub least_le : least_below n p ≤ n
  least_le = omega (arith, least.high)

  pub least_holds : least_below n p < n → T (p (least_below n p))
  least_holds h = least.holds (omega arith)

  pub least_first : (i : ℕ) → i < least_below n p → ¬ T (p i)
  least_first i h = least.first i zero-le h

  pub least_bound : (i : ℕ) → i < n → T (p i) → least_below n p ≤ i
  least_bound i h t = ⊎_elim (λ l. l) (λ l. absurd (least_first i l t)) (le_or_lt (least_below n p) i)

  -- the one number with these properties is the least
  pub least_unique : (l : ℕ) → l ≤ n → (l < n → T (p l)) → ((i : ℕ) → i < l → ¬ T (p i)) → l ≡ least_below n p
  least_unique l h holds first = go (compared_numbers l (least_below n p))
    where
      go : Compared l (least_below n p) → l ≡ least_below n p
      go (lesser q) = absurd (least_first l q (holds (omega (arith, least_le))))
      go (level e) = e
      go (greater q) = absurd (first (least_below n p) q (least_holds (omega arith)))

  -- where none passes, the search ends at the bound
  pub least_none : ((i : ℕ) → i < n → ¬ T (p i)) → least_below n p ≡ n
  least_none none = sym (least_unique n (omega arith) (λ h. absurd (omega arith)) none)

-- one number more: what was found stays, else that number is tried
pub least_suc : (n : ℕ) (p : ℕ → Bool) → least_below (suc n) p ≡ cond (ltb (least_below n p) n) (least_below n p) (cond (p n) n (suc n))
least_suc n p = go (ltb (least_below n p) n) refl (p n) refl
  where
    go : (a : Bool) → ltb (least_below n p) n ≡ a → (b : Bool) → p n ≡ b → least_below (suc n) p ≡ cond a (least_below n p) (cond b n (suc n))
    go true e b g =
        let l : least_below n p < n = ltb-true _ _ e in
        sym (least_unique (suc n) p (least_below n p) (omega arith) (λ h. least_holds n p l) (least_first n p))
    go false e true g =
        let l : least_below n p ≡ n = omega (arith, ltb-false (least_below n p) n e, least_le n p) in
        sym (least_unique (suc n) p n (omega arith) (λ h. true_T g) (λ i h. least_first n p i (omega arith)))
    go false e false g =
        let l : least_below n p ≡ n = omega (arith, ltb-false (least_below n p) n e, least_le n p) in
        least_none (suc n) p
        (λ i h t.
        ⊎_elim (λ (q : i ≡ n). subst T (ap p q ∙ g) t) (λ r. least_first n p i (omega arith) t) (below_cases h))

pub least_add_one : (n : ℕ) (p : ℕ → Bool) → least_below (n + 1) p ≡ cond (ltb (least_below n p) n) (least_below n p) (cond (p n) n (n + 1))
least_add_one n p = rw add-one (least_suc n p)

-- the least number below n that has P
pub record First (n : ℕ) (P : ℕ → Type 0) : Type 0 where
  pub at : ℕ
  pub below : at < n
  pub holds : P at
  pub first : (j : ℕ) → j < at → ¬ P j

module _ {P : ℕ → Type 0} where
  -- the least number below n that has P, or none has it
  pub least_dec : (n : ℕ) → ((i : ℕ) → i < n → Dec (P i)) → First n P ⊎ ((i : ℕ) → i < n → ¬ P i)
  least_dec zero d = inr (λ i h. absurd (not-suc-le-zero h))
  least_dec (suc n) d = ⊎_elim old (λ none. new none (d n (omega arith))) (least_dec n (λ i h. d i (omega arith)))
    where
      old : First n P → First (suc n) P ⊎ ((i : ℕ) → i < suc n → ¬ P i)
      old f = inl (record { at = f.at; below = omega arith; holds = f.holds; first = f.first })

      new : ((i : ℕ) → i < n → ¬ P i) → Dec (P n) → First (suc n) P ⊎ ((i : ℕ) → i < suc n → ¬ P i)
      new none (yes t) = inl (record { at = n; below = omega arith; holds = t; first = none })
      new none (no f) = inr (λ i h t. ⊎_elim (λ e. f (subst P e t)) (λ l. none i l t) (below_cases h))

  -- bounded quantifiers over a decided predicate are decided
  pub dec_any : (n : ℕ) → ((i : ℕ) → i < n → Dec (P i)) → Dec ((i : ℕ) × (i < n) × P i)
  dec_any n d =
      ⊎_elim (λ f. yes (f.at, f.below, f.holds)) (λ none. no (λ s. none s.0 s.1 s.2)) (least_dec n d)

pub dec_all : {P : ℕ → Type 0} (n : ℕ) → ((i : ℕ) → i < n → Dec (P i)) → Dec ((i : ℕ) → i < n → P i)
dec_all {P} n d =
    ⊎_elim (λ (f : First n (λ i. ¬ P i)). no (λ h. f.holds (h f.at f.below)))
    (λ none. yes (λ i l. by_cases (d i l) (λ t. t) (λ f. absurd (none i l f))))
    (least_dec {P = λ i. ¬ P i} n (λ i l. Dec.not (d i l)))

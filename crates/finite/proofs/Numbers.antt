-- Cases on the order of numbers, strong induction, and pairs of numbers counted row by row. Assumes nothing.
use mathlib.Core.Path.{◌≡◌, sym, ap, ◌∙◌}
use mathlib.Core.Logic.{◌⊎◌, inl, inr, ⊎_elim}
use Prim.Native.Nat.{ℕ, zero, suc, ◌+◌, ◌*◌, ◌/◌, ◌%◌, ◌≤◌, ◌<◌, zero-le, suc-le-suc}
use native.Mathlib.Nat.{le_of_suc-le-suc, not-suc-le-zero, eq-or-lt_of_le, suc-mul}
use native.Mathlib.Numerals.{add-one}
use native.Mathlib.Omega.{arith}
use lib.Arith.{digits_div, digits_mod}

-- a number below n + 1 is n or below n
pub below_cases : {i n : ℕ} → i < suc n → (i ≡ n) ⊎ (i < n)
below_cases h = eq-or-lt_of_le (le_of_suc-le-suc h)

pub le_or_lt : (a b : ℕ) → (a ≤ b) ⊎ (b < a)
le_or_lt zero b = inl zero-le
le_or_lt (suc a) zero = inr (suc-le-suc zero-le)
le_or_lt (suc a) (suc b) = ⊎_elim (λ p. inl (suc-le-suc p)) (λ q. inr (suc-le-suc q)) (le_or_lt a b)

-- two numbers are in order, equal, or in the other order
pub data Compared (a b : ℕ) : Type 0 where
  lesser : a < b → Compared a b
  level : a ≡ b → Compared a b
  greater : b < a → Compared a b

pub compared_numbers : (a b : ℕ) → Compared a b
compared_numbers a b = ⊎_elim (λ h. ⊎_elim (λ e. level e) (λ l. lesser l) (eq-or-lt_of_le h)) (λ l. greater l) (le_or_lt a b)

-- what holds of n whenever it holds of all smaller numbers holds of every n
pub strong_induction {ℓ} : (P : ℕ → Type ℓ) → ((n : ℕ) → ((m : ℕ) → m < n → P m) → P n) → (n : ℕ) → P n
strong_induction P step n = step n (below n)
  where
    below : (k m : ℕ) → m < k → P m
    below zero m h = absurd (not-suc-le-zero h)
    below (suc k) m h = step m (λ j l. below k j (omega arith))

-- the number a·n + b tells the pair
pub pair_same : {n a b c d : ℕ} → b < n → d < n → a * n + b ≡ c * n + d → (a ≡ c) × (b ≡ d)
pair_same {n} {a} {b} {c} {d} hb hd p = (
  sym (digits_div a hb) ∙ ap (λ (i : ℕ). i / n) p ∙ digits_div c hd,
  sym (digits_mod a hb) ∙ ap (λ (i : ℕ). i % n) p ∙ digits_mod c hd,
)

-- one row more
pub row_more : (a n : ℕ) → (a + 1) * n ≡ a * n + n
row_more a n = rw add-one (suc-mul a n)

-- The number of a matrix over two states has the matrix' entries as its digits to the base 3. Assumes nothing.
use Prim.Native.Nat.{ℕ, zero, suc, ◌+◌, ◌*◌, ◌/◌, ◌%◌, ◌≤◌, ◌<◌}
use mathlib.Core.Path.{◌≡◌, ap, ◌∙◌}
use native.Mathlib.Omega.{arith}
use native.Mathlib.Nat.{mul-add-div_right, mul-add-mod_self_right, mod-eq_of_lt, mod-lt, div-eq_of_lt}
use Rattle.buchi.specs.Matrices.{Matrix, SameEntries}
use Rattle.automaton_ready_products.specs.Ready.{matrix_number, numbered}

-- the entries of two states are at most 2
pub record SmallEntries (M : Matrix) : Type 0 where
  pub small : (p q : ℕ) → p < 2 → q < 2 → M p q ≤ 2

-- ---- digits

pub digits_before : (a r n : ℕ) → 0 < n → r < n → (a * n + r) / n ≡ a
digits_before a r n some h = mul-add-div_right some a r ∙ ap (λ (d : ℕ). a + d) (div-eq_of_lt h) ∙ omega arith

pub last_digit : (a r n : ℕ) → r < n → (a * n + r) % n ≡ r
last_digit a r n h = mul-add-mod_self_right a n r ∙ mod-eq_of_lt h

module _ {a b c d : ℕ} (ha : a ≤ 2) (hb : b ≤ 2) (hc : c ≤ 2) (hd : d ≤ 2) where
  first_digit : (27 * a + 9 * b + 3 * c + d) / 27 % 3 ≡ a
  first_digit =
      let e : 27 * a + 9 * b + 3 * c + d ≡ a * 27 + (9 * b + 3 * c + d) = omega arith in
      ap (λ (x : ℕ). x / 27 % 3) e ∙ ap (λ (x : ℕ). x % 3) (digits_before a (9 * b + 3 * c + d) 27 (omega arith) (omega arith)) ∙ mod-eq_of_lt (omega arith)

  second_digit : (27 * a + 9 * b + 3 * c + d) / 9 % 3 ≡ b
  second_digit =
      let e : 27 * a + 9 * b + 3 * c + d ≡ (a * 3 + b) * 9 + (3 * c + d) = omega arith in
      ap (λ (x : ℕ). x / 9 % 3) e ∙ ap (λ (x : ℕ). x % 3) (digits_before (a * 3 + b) (3 * c + d) 9 (omega arith) (omega arith)) ∙ last_digit a b 3 (omega arith)

  third_digit : (27 * a + 9 * b + 3 * c + d) / 3 % 3 ≡ c
  third_digit =
      let e : 27 * a + 9 * b + 3 * c + d ≡ ((a * 3 + b) * 3 + c) * 3 + d = omega arith in
      ap (λ (x : ℕ). x / 3 % 3) e ∙ ap (λ (x : ℕ). x % 3) (digits_before ((a * 3 + b) * 3 + c) d 3 (omega arith) (omega arith)) ∙ last_digit (a * 3 + b) c 3 (omega arith)

  fourth_digit : (27 * a + 9 * b + 3 * c + d) % 3 ≡ d
  fourth_digit =
      let e : 27 * a + 9 * b + 3 * c + d ≡ ((a * 3 + b) * 3 + c) * 3 + d = omega arith in
      ap (λ (x : ℕ). x % 3) e ∙ last_digit ((a * 3 + b) * 3 + c) d 3 (omega arith)

-- ---- matrices

module _ {M : Matrix} (s : SmallEntries M) where
  m00 : M 0 0 ≤ 2
  m00 = s.small 0 0 (omega arith) (omega arith)

  m01 : M 0 1 ≤ 2
  m01 = s.small 0 1 (omega arith) (omega arith)

  m10 : M 1 0 ≤ 2
  m10 = s.small 1 0 (omega arith) (omega arith)

  m11 : M 1 1 ≤ 2
  m11 = s.small 1 1 (omega arith) (omega arith)

  pub number_below : matrix_number M < 81
  unfolding matrix_number
  number_below = omega (arith, m00, m01, m10, m11)

  pub number_digits : SameEntries 2 (numbered (matrix_number M)) M
  unfolding numbered matrix_number
  number_digits = record { same = digit }
    where
      digit : (p q : ℕ) → p < 2 → q < 2 → numbered (matrix_number M) p q ≡ M p q
      digit zero zero hp hq = first_digit m00 m01 m10 m11
      digit zero (suc zero) hp hq = second_digit m00 m01 m10 m11
      digit (suc zero) zero hp hq = third_digit m00 m01 m10 m11
      digit (suc zero) (suc zero) hp hq = fourth_digit m00 m01 m10 m11
      digit zero (suc (suc q)) hp hq = absurd (omega arith)
      digit (suc zero) (suc (suc q)) hp hq = absurd (omega arith)
      digit (suc (suc p)) q hp hq = absurd (omega arith)

-- a digit is at most 2
pub digit_small : (x : ℕ) → x % 3 ≤ 2
digit_small x = let h : x % 3 < 3 = mod-lt x (omega arith) in omega arith

pub numbered_small : (x p q : ℕ) → numbered x p q ≤ 2
unfolding numbered
numbered_small x zero zero = digit_small (x / 27)
numbered_small x zero (suc q) = digit_small (x / 9)
numbered_small x (suc p) zero = digit_small (x / 3)
numbered_small x (suc p) (suc q) = digit_small x

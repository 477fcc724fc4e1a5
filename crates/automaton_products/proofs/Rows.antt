-- Rows of six entries, filled from the front, and six rows of them: what is filled so is a matrix. Assumes nothing.
use Prim.Native.Nat.{ℕ, zero, suc, ◌+◌, ◌≤◌, ◌<◌}
use mathlib.Core.Path.{◌≡◌, refl, sym, ◌∙◌}
use mathlib.Core.Logic.{◌≢◌, ⊎_elim}
use mathlib.Core.List.{List, []}
use native.Mathlib.Omega.{arith}
use borrow.Author.Count.{below_more}
use lib.ListN.{length, get_or, set, replicate, length-set, get_or-replicate}
use lib.Seq.{get_or-set_same, get_or-set_other}
use Rattle.finite.proofs.Numbers.{le_or_lt}
use Rattle.buchi.specs.Matrices.{Matrix, SameEntries}
use Rattle.automaton_products.specs.Arrays.{entry_in, MatrixShape, RowOf}

-- ---- a row

pub zeros_at : (k q : ℕ) → ◌≡◌ {A = ℕ} (get_or (replicate k 0) q 0) 0
zeros_at zero q = refl
zeros_at (suc k) zero = refl
zeros_at (suc k) (suc q) = zeros_at k q

abbrev zero_row : List ℕ
zero_row = replicate 6 0

module _ {f : ℕ → ℕ} where
  pub row_none : RowOf f 0 zero_row
  row_none = record { six = refl; entries = λ q h. absurd (omega arith); zeros = λ q h. zeros_at 6 q }

  pub row_more : {n v : ℕ} {row : List ℕ} → RowOf f n row → n < 6 → v ≡ f n → RowOf f (n + 1) (set row n v)
  row_more {n} {v} {row} k h e =
      let l : n < length row = rw k.six h in
      record {
        six = length-set row n v ∙ k.six;
        entries = below_more (λ q. get_or (set row n v) q 0 ≡ f q) n (λ q g. old q (omega arith) ∙ k.entries q g) (get_or-set_same row n v 0 l ∙ e);
        zeros = λ q g. old q (omega arith) ∙ k.zeros q (omega arith);
      }
    where
      old : (q : ℕ) → q ≢ n → get_or (set row n v) q 0 ≡ get_or row q 0
      old q g = get_or-set_other row n q v 0 g

  pub row_all : {n k : ℕ} {row : List ℕ} → k ≤ n → n ≤ k → RowOf f k row → RowOf f n row
  row_all {n} {k} h l r = let e : n ≡ k = omega arith in rw e r

  empty_row : (p : ℕ) → p < 6 → RowOf f 0 (get_or (replicate 6 zero_row) p [])
  empty_row p h = let e : get_or (replicate 6 zero_row) p [] ≡ zero_row = get_or-replicate 6 p zero_row [] h in rw e row_none

-- ---- six rows

-- six rows, of which the first k have the first n entries of f; all else is 0
pub record RowsOf (f : Matrix) (k n : ℕ) (m : List (List ℕ)) : Type 0 where
  pub six : length m ≡ 6
  pub filled : (p : ℕ) → p < k → RowOf (f p) n (get_or m p [])
  pub empty : (p : ℕ) → k ≤ p → p < 6 → RowOf (f p) 0 (get_or m p [])

module _ {f : Matrix} where
  pub rows_none : {n : ℕ} → RowsOf f 0 n (replicate 6 zero_row)
  rows_none = record { six = refl; filled = λ p h. absurd (omega arith); empty = λ p h l. empty_row p l }

  pub rows_more : {k n : ℕ} {m : List (List ℕ)} {row : List ℕ} → RowsOf f k n m → k < 6 → RowOf (f k) n row → RowsOf f (k + 1) n (set m k row)
  rows_more {k} {n} {m} {row} r h new =
      let l : k < length m = rw r.six h in
      let e : get_or (set m k row) k [] ≡ row = get_or-set_same m k row [] l in
      record {
        six = length-set m k row ∙ r.six;
        filled = below_more (λ p. RowOf (f p) n (get_or (set m k row) p [])) k (λ p g. rw (old p (omega arith)) (r.filled p g)) (rw e new);
        empty = λ p g b. rw (old p (omega arith)) (r.empty p (omega arith) b);
      }
    where
      old : (p : ℕ) → p ≢ k → get_or (set m k row) p [] ≡ get_or m p []
      old p g = get_or-set_other m k p row [] g

  module _ {n : ℕ} {m : List (List ℕ)} (r : RowsOf f n n m) (h : n ≤ 6) where
    pub rows_length : (p : ℕ) → p < 6 → length (get_or m p []) ≡ 6
    rows_length p l = ⊎_elim (λ g. (r.empty p g l).six) (λ g. (r.filled p g).six) (le_or_lt n p)

    pub rows_entry : (p q : ℕ) → p < n → q < n → entry_in m p q ≡ f p q
    unfolding entry_in
    rows_entry p q hp hq = (r.filled p hp).entries q hq

    pub rows_same : SameEntries n f (entry_in m)
    rows_same = record { same = λ p q hp hq. sym (rows_entry p q hp hq) }

    pub rows_shape : ((p q : ℕ) → p < n → q < n → f p q ≤ 2) → MatrixShape n m
    unfolding entry_in
    rows_shape small = record { rows = r.six; columns = rows_length; entries = record { small = bound; no_row = λ p q g l b. no_row p q g l; no_column = no_column } }
      where
        no_row : (p q : ℕ) → n ≤ p → p < 6 → entry_in m p q ≡ 0
        no_row p q g l = (r.empty p g l).zeros q (omega arith)

        no_column : (p q : ℕ) → n ≤ q → p < 6 → q < 6 → entry_in m p q ≡ 0
        no_column p q g l b = ⊎_elim (λ a. no_row p q a l) (λ a. (r.filled p a).zeros q g) (le_or_lt n p)

        bound : (p q : ℕ) → p < 6 → q < 6 → entry_in m p q ≤ 2
        bound p q hp hq =
            ⊎_elim (λ a. omega (arith, no_row p q a hp))
            (λ a. ⊎_elim (λ b. omega (arith, no_column p q b hp hq)) (λ b. omega (arith, rows_entry p q a b, small p q a b)) (le_or_lt n q)) (le_or_lt n p)

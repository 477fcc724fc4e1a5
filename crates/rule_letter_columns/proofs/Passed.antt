-- How far the loops over the entries of letters and over their columns have come: their invariants, what one turn adds, and what they
-- give at the end. Assumes nothing.
use Prim.Native.Nat.{ℕ, ◌+◌, ◌*◌, ◌≤◌, ◌<◌}
use mathlib.Core.Path.{◌≡◌, ap, ◌∙◌}
use mathlib.Core.List.{List}
use native.Mathlib.Omega.{arith}
use borrow.Author.Count.{below_more}
use lib.ListN.{length, get_or, set, length-set}
use lib.Seq.{get_or-set_same, get_or-set_other}
use Rattle.formats.specs.Table.{product_at}
use Rattle.rule_letter_columns.specs.Columns.{LetterEntries, Column, LetterColumns}

-- the columns before j are filled, and column j up to x
pub record ColumnsTo (bytes : List ℕ) (n : ℕ) (queue columns : List ℕ) (j x : ℕ) : Type 0 where
  pub room : length columns ≡ 1024
  pub full : (i : ℕ) → i < j → Column bytes n columns i (get_or queue i 0)
  pub part : (y : ℕ) → y < x → get_or columns (64 * j + y) 0 ≡ product_at bytes n y (get_or queue j 0)

-- column j is being filled, with the element h
pub record Filling (bytes : List ℕ) (n : ℕ) (queue columns : List ℕ) (j h x : ℕ) : Type 0 where
  pub filled : ColumnsTo bytes n queue columns j x
  pub element : h ≡ get_or queue j 0
  pub inside : h < n
  pub below : j < 16

module _ {bytes : List ℕ} {n : ℕ} {queue : List ℕ} where
  pub columns_start : {columns : List ℕ} → length columns ≡ 1024 → ColumnsTo bytes n queue columns 0 0
  columns_start room = record { room = room; full = λ i l. absurd (omega arith); part = λ y l. absurd (omega arith) }

  -- a product more
  pub column_more : {columns : List ℕ} {j h x v : ℕ} → n ≤ 64 → Filling bytes n queue columns j h x → x < n → v ≡ product_at bytes n x h
      → Filling bytes n queue (set columns (64 * j + x) v) j h (x + 1)
  column_more {columns} {j} {h} {x} {v} small f below e = record {
    filled = record {
      room = length-set columns (64 * j + x) v ∙ f.filled.room;
      full = λ i l. record {
        product = λ y g. get_or-set_other columns (64 * j + x) (64 * i + y) v 0 (λ q. omega arith) ∙ (f.filled.full i l).product y g;
      };
      part = below_more (λ y. get_or (set columns (64 * j + x) v) (64 * j + y) 0 ≡ product_at bytes n y (get_or queue j 0)) x
          (λ y l. get_or-set_other columns (64 * j + x) (64 * j + y) v 0 (λ q. omega arith) ∙ f.filled.part y l)
          (get_or-set_same columns (64 * j + x) v 0 (omega (arith, f.filled.room, f.below)) ∙ e ∙ ap (product_at bytes n x) f.element);
    };
    element = f.element;
    inside = f.inside;
    below = f.below;
  }

  -- a column more
  pub columns_next : {columns : List ℕ} {j x : ℕ} → ColumnsTo bytes n queue columns j x → n ≤ x → ColumnsTo bytes n queue columns (j + 1) 0
  columns_next {columns} {j} c l = record {
    room = c.room;
    full = below_more (λ i. Column bytes n columns i (get_or queue i 0)) j c.full (record { product = λ y h. c.part y (omega arith) });
    part = λ y h. absurd (omega arith);
  }

  pub columns_all : {columns : List ℕ} {j x letters : ℕ} → ColumnsTo bytes n queue columns j x → letters ≤ j → LetterColumns bytes n queue letters columns
  columns_all c l = record { column = λ i h. c.full i (omega arith) }

-- the first entries were found from the empty word's
pub record LettersTo (queue : List ℕ) (i : ℕ) : Type 0 where
  pub first : (j : ℕ) → j < i → get_or queue (64 + j) 0 ≡ 0

module _ {queue : List ℕ} where
  pub letters_none : LettersTo queue 0
  letters_none = record { first = λ j h. absurd (omega arith) }

  pub letters_one : {i : ℕ} → LettersTo queue i → get_or queue (64 + i) 0 ≤ 0 → LettersTo queue (i + 1)
  letters_one {i} l h = record { first = below_more (λ j. get_or queue (64 + j) 0 ≡ 0) i l.first (omega arith) }

  -- all of them were
  pub letters_only : {i count : ℕ} → LettersTo queue i → count ≤ i → LetterEntries queue count count
  letters_only l h = record { few = omega arith; first = λ j g. l.first j (omega arith); later = λ j g b. absurd (let z : ⊥ = omega arith in z) }

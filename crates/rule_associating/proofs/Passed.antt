-- How far the loops of the test between letters have come: their invariants, what one turn adds, and what they give at the end. Assumes
-- nothing.
use Prim.Native.Nat.{ℕ, ◌+◌, ◌*◌, ◌≤◌, ◌<◌}
use mathlib.Core.Path.{◌≡◌, refl, sym, ap, ◌∙◌}
use mathlib.Core.Bool.{Bool, true, false, not}
use mathlib.Core.List.{List}
use native.Mathlib.Omega.{arith}
use borrow.Author.Count.{below_more}
use lib.ListN.{get_or}
use Rattle.formats.proofs.Tables.{Table}
use Rattle.formats.specs.Table.{product_at, morphism_at}
use Rattle.rule_letter_columns.specs.Columns.{Column}
use Rattle.rule_along_words.specs.Tests.{ColumnInside}
use Rattle.rule_along_words.proofs.Passed.{true_apart, Noted, noted_difference}
use Rattle.rule_associating.specs.Tests.{Between, ColumnBetween, BetweenAnswer, LettersBetween}

-- where nothing was seen to differ, (g·y)·h = g·(y·h) for every y before x, with h the element of column j
pub record BetweenBefore (bytes : List ℕ) (n k : ℕ) (columns : List ℕ) (j g : ℕ) (same : Bool) (x : ℕ) : Type 0 where
  pub table : Table bytes n k
  pub column : ColumnInside columns n j
  pub inside : g < n
  pub passed : same ≡ true → (y : ℕ) → y < x → get_or columns (64 * j + product_at bytes n g y) 0 ≡ product_at bytes n g (get_or columns (64 * j + y) 0)

module _ {bytes : List ℕ} {n k : ℕ} {columns : List ℕ} {j g : ℕ} where
  pub between_start : Table bytes n k → ColumnInside columns n j → g < n → BetweenBefore bytes n k columns j g true 0
  between_start t c i = record { table = t; column = c; inside = i; passed = λ w y l. absurd (omega arith) }

  pub between_next : {x gx right : ℕ} {same next : Bool} → BetweenBefore bytes n k columns j g same x → gx ≡ product_at bytes n g x
      → right ≡ product_at bytes n g (get_or columns (64 * j + x) 0) → Noted (get_or columns (64 * j + gx) 0) right same next
      → BetweenBefore bytes n k columns j g next (x + 1)
  between_next {x} b e r d = record {
    table = b.table;
    column = b.column;
    inside = b.inside;
    passed = λ w.
        let z = noted_difference d w in
        below_more (λ y. get_or columns (64 * j + product_at bytes n g y) 0 ≡ product_at bytes n g (get_or columns (64 * j + y) 0)) x (b.passed z.1) (let u = z.0 in cc);
  }

  pub between_all : {x : ℕ} (same : Bool) → BetweenBefore bytes n k columns j g same x → n ≤ x → BetweenAnswer (morphism_at bytes n k) columns j g same
  between_all true b l = record { between = λ y g. b.passed refl y (omega arith) }
  between_all false b l = tt

  -- the column is that of h
  column_between : {h : ℕ} → Table bytes n k → Column bytes n columns j h → g < n → ColumnBetween (morphism_at bytes n k) columns j g → Between (morphism_at bytes n k) g h
  column_between t c l b = record {
    between = λ x i. sym (c.product (product_at bytes n g x) (t.products g x l i)) ∙ b.between x i ∙ ap (product_at bytes n g) (c.product x i);
  }

-- (g·x)·h = g·(x·h) for the element g of an entry and the elements h of the first entries
pub record RowBetween (bytes : List ℕ) (n k : ℕ) (queue : List ℕ) (i cols : ℕ) : Type 0 where
  pub behind : (j : ℕ) → j < cols → Between (morphism_at bytes n k) (get_or queue i 0) (get_or queue j 0)

module _ {bytes : List ℕ} {n k : ℕ} {queue : List ℕ} where
  pub row_start : {i : ℕ} → RowBetween bytes n k queue i 0
  row_start = record { behind = λ j l. absurd (omega arith) }

  -- one letter behind more
  pub row_next : {columns : List ℕ} {i j : ℕ} → Table bytes n k → Column bytes n columns j (get_or queue j 0) → get_or queue i 0 < n → RowBetween bytes n k queue i j
      → (r : Bool) → BetweenAnswer (morphism_at bytes n k) columns j (get_or queue i 0) r → not r ≡ false → RowBetween bytes n k queue i (j + 1)
  row_next {columns} {i} {j} t c l b true a e = record {
    behind = below_more (λ q. Between (morphism_at bytes n k) (get_or queue i 0) (get_or queue q 0)) j b.behind (column_between t c l a);
  }
  row_next t c l b false a e = absurd (true_apart e)

  module _ {letters : ℕ} where
    pub letters_start : LettersBetween bytes n k queue 0 letters
    letters_start = record { letter = λ i j h l. absurd (omega arith) }

    -- one letter in front more, with all behind
    pub letters_next : {i j : ℕ} → LettersBetween bytes n k queue i letters → RowBetween bytes n k queue i j → letters ≤ j → LettersBetween bytes n k queue (i + 1) letters
    letters_next {i} b row l = record {
      letter = λ p q h g.
          below_more (λ p. (q : ℕ) → q < letters → Between (morphism_at bytes n k) (get_or queue p 0) (get_or queue q 0)) i (λ p h q g. b.letter p q h g)
          (λ q g. row.behind q (omega arith)) p h q g;
    }

    pub letters_all : {i : ℕ} → LettersBetween bytes n k queue i letters → letters ≤ i → LettersBetween bytes n k queue letters letters
    letters_all b l = record { letter = λ i j h g. b.letter i j (omega arith) g }

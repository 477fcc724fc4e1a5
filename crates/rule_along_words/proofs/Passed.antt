-- How far the loops of the test along words have come: their invariants, what one turn adds, and what they give at the end; and what the
-- loops of both tests note. Assumes nothing.
use Prim.Native.Nat.{ℕ, ◌+◌, ◌-◌, ◌*◌, ◌≤◌, ◌<◌}
use mathlib.Core.Path.{◌≡◌, refl, sym, ◌∙◌, subst}
use mathlib.Core.Logic.{◌⊎◌, inl, inr, ⊎_elim}
use mathlib.Core.Bool.{Bool, true, false, not}
use mathlib.Core.List.{List}
use native.Mathlib.Omega.{arith}
use native.Mathlib.Nat.{eq-or-lt_of_le}
use borrow.Author.Count.{below_more}
use lib.ListN.{get_or}
use Rattle.formats.proofs.Tables.{Table}
use Rattle.formats.specs.Table.{product_at, image_at, morphism_at}
use Rattle.rule_letter_columns.specs.Columns.{Column}
use Rattle.rule_along_words.specs.Tests.{ColumnInside, Along, AlongAnswer, WordAlong, WordsAlong}

pub true_apart : not false ≡ false → ⊥
true_apart e = let z : ◌≡◌ {A = ℕ} 0 1 = cc in omega arith

-- a flag after two numbers were compared: taken down where they differ
abbrev pub Noted : ℕ → ℕ → Bool → Bool → Type 0
Noted left right same next = (next ≡ false) ⊎ ((left ≡ right) × (next ≡ same))

-- where it still stands they are equal, and it stood before
pub noted_difference : {left right : ℕ} {same next : Bool} → Noted left right same next → next ≡ true → (left ≡ right) × (same ≡ true)
noted_difference (inl e) w = absurd (let z : ◌≡◌ {A = ℕ} 0 1 = cc in omega arith)
noted_difference (inr d) w = (d.0, sym d.1 ∙ w)

-- where nothing was seen to differ, (y·p)·h = y·s for every y before x, with h the element of column j
pub record AlongBefore (bytes : List ℕ) (n k : ℕ) (columns : List ℕ) (j p s : ℕ) (same : Bool) (x : ℕ) : Type 0 where
  pub table : Table bytes n k
  pub column : ColumnInside columns n j
  pub inside : (p < n) × (s < n)
  pub passed : same ≡ true → (y : ℕ) → y < x → get_or columns (64 * j + product_at bytes n y p) 0 ≡ product_at bytes n y s

module _ {bytes : List ℕ} {n k : ℕ} {columns : List ℕ} {j p s : ℕ} where
  pub along_start : Table bytes n k → ColumnInside columns n j → (p < n) × (s < n) → AlongBefore bytes n k columns j p s true 0
  along_start t c i = record { table = t; column = c; inside = i; passed = λ w y l. absurd (omega arith) }

  pub along_next : {x xp right : ℕ} {same next : Bool} → AlongBefore bytes n k columns j p s same x → xp ≡ product_at bytes n x p → right ≡ product_at bytes n x s
      → Noted (get_or columns (64 * j + xp) 0) right same next → AlongBefore bytes n k columns j p s next (x + 1)
  along_next {x} b e r d = record {
    table = b.table;
    column = b.column;
    inside = b.inside;
    passed = λ w.
        let z = noted_difference d w in
        below_more (λ y. get_or columns (64 * j + product_at bytes n y p) 0 ≡ product_at bytes n y s) x (b.passed z.1) (let u = z.0 in cc);
  }

  pub along_all : {x : ℕ} (same : Bool) → AlongBefore bytes n k columns j p s same x → n ≤ x → AlongAnswer (morphism_at bytes n k) columns j p s same
  along_all true b l = record { along = λ y g. b.passed refl y (omega arith) }
  along_all false b l = tt

  -- the column is that of h
  pub column_along : {h : ℕ} → Table bytes n k → Column bytes n columns j h → p < n → (r : Bool) → AlongAnswer (morphism_at bytes n k) columns j p s r → not r ≡ false
      → Along (morphism_at bytes n k) p h s
  column_along t c l true a e = record { along = λ x g. sym (c.product (product_at bytes n x p) (t.products x p g l)) ∙ a.along x g }
  column_along t c l false a e = absurd (true_apart e)

-- a letter's column has elements only
pub column_inside : {bytes : List ℕ} {n k : ℕ} {columns : List ℕ} {j h : ℕ} → Table bytes n k → Column bytes n columns j h → h < n → j < 16 → ColumnInside columns n j
column_inside {h = h} t c l below = record { below = below; inside = λ x i. rw (c.product x i) (t.products x h i l) }

-- one entry more
module _ {bytes : List ℕ} {n k : ℕ} {queue : List ℕ} where
  pub words_start : (from : ℕ) → WordsAlong bytes n k queue from from
  words_start from = record { word = λ i l h. absurd (omega arith) }

  pub words_next : {from i h : ℕ} → WordsAlong bytes n k queue from i → h ≡ image_at bytes n (get_or queue (128 + i) 0)
      → Along (morphism_at bytes n k) (get_or queue (get_or queue (64 + i) 0 - 1) 0) h (get_or queue i 0) → WordsAlong bytes n k queue from (i + 1)
  words_next {from} {i} w e a = record {
    word = λ j l h. ⊎_elim
        (λ (p : j ≡ i). subst (WordAlong bytes n k queue) (sym p) (subst (λ (x : ℕ). Along (morphism_at bytes n k) (get_or queue (get_or queue (64 + i) 0 - 1) 0) x (get_or queue i 0)) e a))
        (λ (b : j < i). w.word j l b) (eq-or-lt_of_le (let b : j ≤ i = omega arith in b));
  }

  pub words_all : {from i count : ℕ} → WordsAlong bytes n k queue from i → count ≤ i → WordsAlong bytes n k queue from count
  words_all w l = record { word = λ j g h. w.word j g (omega arith) }

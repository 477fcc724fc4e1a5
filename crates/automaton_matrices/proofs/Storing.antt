-- A row and a matrix written to bytes and read back: what the stores leave, and that no other byte changes. Assumes nothing.
use Prim.Native.Nat.{ℕ, ◌+◌, ◌*◌, ◌≤◌, ◌<◌}
use mathlib.Core.Path.{◌≡◌, refl, sym, ap, ◌∙◌}
use mathlib.Core.Logic.{◌≢◌, ⊎_elim}
use mathlib.Core.List.{List, []}
use native.Mathlib.Omega.{arith}
use borrow.Author.Count.{below_more}
use lib.ListN.{length, get_or}
use Rattle.std.specs.List.{between}
use Rattle.std.proofs.lemmas.List.{get_or_past}
use Rattle.std.proofs.lemmas.List.Edits.{length-between, get_or-between}
use Rattle.buchi.specs.Matrices.{SameEntries}
use Rattle.finite.proofs.Numbers.{le_or_lt}
use Rattle.automaton_products.specs.Arrays.{entry_in, StateEntries, MatrixShape, RowOf}
use Rattle.automaton_matrices.specs.Bytes.{matrix_from, bytes_from, MatrixNeeds, Loaded, Stored, RowStored}
use Rattle.automaton_products.proofs.Rows.{RowsOf, rows_length, rows_entry}

-- ---- places

-- six rows of six bytes end within the matrix's place
pub row_room : {scratch : List ℕ} {base i p : ℕ} → MatrixNeeds scratch base i → p < 6 → base + (i * 64 + p * 6) + 6 ≤ length scratch
row_room k h = let room = k.room in omega arith

row_place : (base i p q : ℕ) → base + (i * 64 + p * 6) + q ≡ base + (i * 64 + (p * 6 + q))
row_place base i p q = omega arith

pub row_bytes : (scratch : List ℕ) (base i p q : ℕ) → bytes_from scratch (base + (i * 64 + p * 6)) q ≡ matrix_from scratch base i p q
unfolding bytes_from matrix_from
row_bytes scratch base i p q = ap (λ j. get_or scratch j 0) (row_place base i p q)

-- ---- a row

-- six bytes are a row
pub bytes_row : (scratch : List ℕ) (at : ℕ) → at + 6 ≤ length scratch → RowOf (bytes_from scratch at) 6 (between at (at + 6) scratch)
unfolding bytes_from
bytes_row scratch at h =
    let six : length (between at (at + 6) scratch) ≡ 6 = omega (arith, length-between scratch at (at + 6) h) in
    record {
      six = six;
      entries = λ q l. get_or-between scratch at (at + 6) q 0 (omega arith);
      zeros = λ q g. get_or_past (between at (at + 6) scratch) q 0 (omega (arith, six));
    }

-- ---- a matrix

module _ {entry : List ℕ} {base i : ℕ} {m : List (List ℕ)} where
  pub stored_none : Stored entry entry base i m 0
  stored_none = record { same_length = refl; entries = λ p q h. absurd (omega arith); before = λ j h. refl; behind = λ j h. refl }

  pub stored_more : {now next : List ℕ} {k : ℕ} → Stored entry now base i m k → RowStored now next (base + (i * 64 + k * 6)) (get_or m k []) 6
      → Stored entry next base i m (k + 1)
  unfolding entry_in matrix_from
  stored_more {now} {next} {k} s r = record {
    same_length = r.same_length ∙ s.same_length;
    entries = λ p q hp hq.
        below_more (λ p. matrix_from next base i p q ≡ entry_in m p q) k (λ p l. old p q l hq ∙ s.entries p q l hq)
        (sym (row_bytes next base i k q) ∙ r.entries q hq) p hp;
    before = λ j l. r.before j (omega arith) ∙ s.before j l;
    behind = λ j l. r.behind j (omega arith) ∙ s.behind j (omega arith);
  }
    where
      old : (p q : ℕ) → p < k → q < 6 → matrix_from next base i p q ≡ matrix_from now base i p q
      old p q l h = r.before (base + (i * 64 + (p * 6 + q))) (omega arith)

  -- a row more has its place
  pub stored_room : {now : List ℕ} {k : ℕ} → MatrixNeeds entry base i → k < 6 → Stored entry now base i m k → base + (i * 64 + k * 6) + 6 ≤ length now
  stored_room p h s = let room = p.room in let e = s.same_length in omega arith

  pub stored_all : {now : List ℕ} {k : ℕ} → k ≤ 6 → 6 ≤ k → Stored entry now base i m k → Stored entry now base i m 6
  stored_all {k = k} h l s = let e : 6 ≡ k = omega arith in rw e s

-- ---- a matrix read back

-- six bytes are a row of the matrix
pub row_loaded : (scratch : List ℕ) (base i p : ℕ) {row : List ℕ} → RowOf (bytes_from scratch (base + (i * 64 + p * 6))) 6 row → RowOf (matrix_from scratch base i p) 6 row
row_loaded scratch base i p r = record { six = r.six; entries = λ q h. r.entries q h ∙ row_bytes scratch base i p q; zeros = r.zeros }

pub loaded_matrix : {scratch : List ℕ} {base i p : ℕ} {m : List (List ℕ)} → p ≤ 6 → 6 ≤ p → RowsOf (matrix_from scratch base i) p 6 m → Loaded scratch base i m
loaded_matrix {scratch} {base} {i} {p} {m} h l r =
    let e : p ≡ 6 = omega arith in
    let r' : RowsOf (matrix_from scratch base i) 6 6 m = rw e at r in
    record { rows = r'.six; columns = rows_length r' (omega arith); entries = rows_entry r' (omega arith) }

-- the matrix that was read has the entries that stand there
pub loaded_same : {scratch : List ℕ} {base i n : ℕ} {m : List (List ℕ)} → n ≤ 6 → Loaded scratch base i m → SameEntries n (matrix_from scratch base i) (entry_in m)
loaded_same few l = record { same = λ p q hp hq. sym (l.entries p q (omega arith) (omega arith)) }

-- and their shape
pub loaded_shape : {scratch : List ℕ} {base i n : ℕ} {m : List (List ℕ)} → StateEntries n (matrix_from scratch base i) → Loaded scratch base i m → MatrixShape n m
loaded_shape s l = record {
  rows = l.rows;
  columns = l.columns;
  entries = record {
    small = λ p q hp hq. rw (l.entries p q hp hq) (s.small p q hp hq);
    no_row = λ p q g hp hq. l.entries p q hp hq ∙ s.no_row p q g hp hq;
    no_column = λ p q g hp hq. l.entries p q hp hq ∙ s.no_column p q g hp hq;
  };
}

-- ---- a matrix that was written

module _ {entry exit : List ℕ} {base i : ℕ} {m : List (List ℕ)} (s : Stored entry exit base i m 6) where
  pub stored_same : {n : ℕ} → n ≤ 6 → SameEntries n (entry_in m) (matrix_from exit base i)
  stored_same few = record { same = λ p q hp hq. sym (s.entries p q (omega arith) (omega arith)) }

  pub stored_entries : {n : ℕ} → MatrixShape n m → StateEntries n (matrix_from exit base i)
  stored_entries h = record {
    small = λ p q hp hq. rw (s.entries p q hp hq) (h.entries.small p q hp hq);
    no_row = λ p q g hp hq. s.entries p q hp hq ∙ h.entries.no_row p q g hp hq;
    no_column = λ p q g hp hq. s.entries p q hp hq ∙ h.entries.no_column p q g hp hq;
  }

  -- another matrix of the list is as it was
  pub stored_other : (j p q : ℕ) → j ≢ i → p < 6 → q < 6 → matrix_from exit base j p q ≡ matrix_from entry base j p q
  unfolding matrix_from
  stored_other j p q f hp hq =
      ⊎_elim (λ h. s.before (base + (j * 64 + (p * 6 + q))) (omega arith)) (λ h. s.behind (base + (j * 64 + (p * 6 + q))) (omega arith)) (le_or_lt (j + 1) i)

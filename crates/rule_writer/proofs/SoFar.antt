-- The marks as far as they are written: of one row, pair by pair, and of all rows, row by row. Assumes nothing.
use Prim.Native.Nat.{ℕ, ◌+◌, ◌*◌, ◌≤◌, ◌<◌}
use mathlib.Core.Path.{◌≡◌, subst}
use mathlib.Core.List.{List}
use native.Mathlib.Omega.{arith}
use native.Mathlib.Nat.{zero-add, zero-mul, mul-le-mul_right}
use lib.ListN.{length}
use Rattle.rule_bytes.specs.Writing.{Written, table_marks, mark_if_any, MarkNeeds}
use Rattle.rule_writer.specs.Writing.{RowNeeds, AllNeeds}
use Rattle.formats.proofs.Rows.{marks_from}
use Rattle.rule_writer.proofs.Rows.{stretch_one, rows_start, rows_length, rows_room, rows_more}

-- the first i pairs of the row s
pub record RowSoFar (marks : List ℕ) (n s : ℕ) (before : List ℕ) (at : ℕ) (now : List ℕ) (next i : ℕ) : Type 0 where
  pub place : RowNeeds marks n s before at
  pub within : i ≤ n
  pub written : Written before at (marks_from n (table_marks marks) (s * n) i) now next

pub row_start : {marks before : List ℕ} {n s at : ℕ} → RowNeeds marks n s before at → RowSoFar marks n s before at before at 0
row_start {marks} {n = n} {s = s} p = record { place = p; within = omega arith; written = rows_start n (table_marks marks) (s * n) }

module _ {marks before now : List ℕ} {n s at next i : ℕ} (r : RowSoFar marks n s before at now next i) where
  pub row_length : length now ≡ length before
  row_length = rows_length n (table_marks marks) (s * n) i r.written (omega (arith, r.place.room, r.within))

  -- where the next pair goes
  pub row_place : i < n → MarkNeeds marks s i now next
  row_place l = record {
    long = r.place.table.long;
    start_inside = omega (arith, r.place.inside, r.place.table.small);
    cycle_inside = omega (arith, r.place.table.small);
    room = rows_room n (table_marks marks) (s * n) i r.written 1 (omega (arith, r.place.room));
  }

  -- one pair more
  pub row_next : i < n → {after : List ℕ} {end : ℕ} → Written now next (mark_if_any (table_marks marks) s i) after end
      → RowSoFar marks n s before at after end (i + 1)
  row_next l v = record {
    place = r.place;
    within = omega arith;
    written = rows_more n (table_marks marks) (s * n) i r.written 1 (rw (stretch_one n (table_marks marks) s i l) v) (omega (arith, r.place.room));
  }

  -- the whole row
  pub row_all : n ≤ i → Written before at (marks_from n (table_marks marks) (s * n) n) now next
  row_all l =
      subst (λ (k : ℕ). Written before at (marks_from n (table_marks marks) (s * n) k) now next) (let e : i ≡ n = omega (arith, r.within) in e) r.written

-- the first s rows
pub record RowsSoFar (marks : List ℕ) (n : ℕ) (before : List ℕ) (at : ℕ) (now : List ℕ) (next s : ℕ) : Type 0 where
  pub place : AllNeeds marks n before at
  pub within : s ≤ n
  pub written : Written before at (marks_from n (table_marks marks) 0 (s * n)) now next

pub rows_begin : {marks before : List ℕ} {n at : ℕ} → AllNeeds marks n before at → RowsSoFar marks n before at before at 0
rows_begin {marks} {n = n} p = record { place = p; within = omega arith; written = rw (zero-mul n) (rows_start n (table_marks marks) 0) }

-- a row among n rows
row_fits : (n s : ℕ) → s < n → s * n + n ≤ n * n
row_fits n s l = omega (arith, mul-le-mul_right n l)

module _ {marks before now : List ℕ} {n at next s : ℕ} (r : RowsSoFar marks n before at now next s) where
  pub all_length : length now ≡ length before
  all_length =
      rows_length n (table_marks marks) 0 (s * n) r.written
      (omega (arith, r.place.room, mul-le-mul_right n r.within))

  -- where the next row goes
  pub rows_place : s < n → RowNeeds marks n s now next
  rows_place l = record {
    table = r.place.table;
    inside = l;
    room = rows_room n (table_marks marks) 0 (s * n) r.written n (omega (arith, r.place.room, row_fits n s l));
  }

  -- one row more
  pub rows_add : s < n → {after : List ℕ} {end : ℕ} → Written now next (marks_from n (table_marks marks) (s * n) n) after end
      → RowsSoFar marks n before at after end (s + 1)
  rows_add l v = record {
    place = r.place;
    within = omega arith;
    written =
        rw (let q : (s + 1) * n ≡ s * n + n = omega arith in q)
        (rows_more n (table_marks marks) 0 (s * n) r.written n (rw zero-add v) (omega (arith, r.place.room, row_fits n s l)));
  }

  -- all rows
  pub rows_all : n ≤ s → Written before at (marks_from n (table_marks marks) 0 (n * n)) now next
  rows_all l =
      subst (λ (k : ℕ). Written before at (marks_from n (table_marks marks) 0 (k * n)) now next) (let e : s ≡ n = omega (arith, r.within) in e) r.written

-- Products and marks laid out byte after byte and row after row. What a byte is to be is found by looking at scratch as it is then, and
-- holds of scratch as it was at first, for only later bytes have changed. Assumes nothing.
use Prim.Native.Nat.{ℕ, ◌+◌, ◌*◌, ◌≤◌, ◌<◌}
use mathlib.Core.Path.{refl}
use mathlib.Core.List.{List}
use native.Mathlib.Omega.{arith}
use lib.ListN.{length, set}
use Rattle.scratch.specs.Bytes.{UnchangedOutside}
use Rattle.scratch.specs.Rows.{RowFilled, RowsFilled}
use Rattle.scratch.proofs.Unchanged.{unchanged_sym, unchanged_wider}
use Rattle.scratch.proofs.Rows.{pair_small, filled_more, rows_more, rows_all, rows_known}
use Rattle.automaton_matrix_search.specs.Lists.{KeptBelow}
use Rattle.automaton_table.specs.Laying.{StepNeeds, StepList, RowLaid, ProductNumber, TableNumber, MarkNeeds, MarkByte}
use Rattle.automaton_table.proofs.Staying.{place_stays, number_stays}
use Rattle.automaton_table.proofs.Marks.{mark_stays}

-- ---- the products

module _ {count i : ℕ} {entry : List ℕ} (l : StepNeeds entry count) (hi : i < count) where
  pub row_small : i * count < 4096
  row_small = omega (arith, pair_small count i 0 l.few hi (omega arith))

  module _ {j : ℕ} {now : List ℕ} (r : RowFilled (TableNumber count entry i) (16384 + i * count) j entry now) (hj : j < count) where
    kept : KeptBelow 16384 entry now
    kept = unchanged_wider (omega arith) (omega (arith, pair_small count i j l.few hi hj)) r.kept

    pub steps_now : StepNeeds now count
    steps_now = place_stays kept l

    pub row_now : RowLaid count now i j
    row_now = record { numbers = λ y h. number_stays kept l.few hi (omega arith) (r.filled y h) }

    pub product_room : 16384 + i * count + j < length now
    product_room = omega (arith, pair_small count i j l.few hi hj, steps_now.room)

    pub product_more : {byte : ℕ} → TableNumber count now i j byte
        → RowFilled (TableNumber count entry i) (16384 + i * count) (j + 1) entry (set now (16384 + i * count + j) byte)
    product_more p = filled_more refl product_room r (number_stays (unchanged_sym kept) l.few hi hj p)

module _ {count i : ℕ} {entry now : List ℕ} (l : StepNeeds entry count) (r : RowsFilled (TableNumber count entry) 16384 count count i entry now) where
  module _ (hi : i < count) where
    rows_kept : KeptBelow 16384 entry now
    rows_kept = unchanged_wider (omega arith) (omega (arith, row_small l hi)) r.kept

    pub steps_rows_now : StepNeeds now count
    steps_rows_now = place_stays rows_kept l

    pub products_more : {next : List ℕ} → RowFilled (TableNumber count now i) (16384 + i * count) count now next
        → RowsFilled (TableNumber count entry) 16384 count count (i + 1) entry next
    products_more s = rows_more (omega arith) r s (λ j byte hj p. number_stays (unchanged_sym rows_kept) l.few hi hj p)

  -- all of them, where the bytes were recorded of a list
  pub products_all : i ≤ count → count ≤ i → (kinds : List ℕ) (n : ℕ) → StepList kinds n entry count → RowsFilled (ProductNumber n count entry) 16384 count count count entry now
  products_all h g kinds n steps = rows_known (λ i j byte t. t.is_of_product kinds n steps) (rows_all h g r)

-- ---- the marks

pub marks_place : {kinds : List ℕ} {n count from to : ℕ} {entry now : List ℕ} → MarkNeeds kinds n entry count → UnchangedOutside from to entry now
    → MarkNeeds kinds n now count
marks_place p k = record { few_states = p.few_states; kinds_long = p.kinds_long; room = rw k.same_length p.room; few = p.few }

module _ {kinds : List ℕ} {n count s : ℕ} {entry : List ℕ} (l : MarkNeeds kinds n entry count) (hs : s < count) where
  module _ {e : ℕ} {now : List ℕ} (r : RowFilled (MarkByte kinds n count entry s) (24576 + s * 64) e entry now) (he : e < count) where
    pub mark_room : 24576 + s * 64 + e < length now
    mark_room = omega (arith, (marks_place l r.kept).room, l.few)

    pub mark_more : {byte : ℕ} → MarkByte kinds n count now s e byte
        → RowFilled (MarkByte kinds n count entry s) (24576 + s * 64) (e + 1) entry (set now (24576 + s * 64 + e) byte)
    mark_more p =
        let kept : KeptBelow 24576 entry now = unchanged_wider (omega arith) (omega (arith, l.few)) r.kept in
        filled_more refl mark_room r (mark_stays (unchanged_sym kept) l.few_states l.few hs he p)

  pub marks_more : {now next : List ℕ} → RowsFilled (MarkByte kinds n count entry) 24576 64 count s entry now
      → RowFilled (MarkByte kinds n count now s) (24576 + s * 64) count now next
      → RowsFilled (MarkByte kinds n count entry) 24576 64 count (s + 1) entry next
  marks_more {now} r t =
      let kept : KeptBelow 24576 entry now = unchanged_wider (omega arith) (omega (arith, l.few)) r.kept in
      rows_more l.few r t (λ e byte he p. mark_stays (unchanged_sym kept) l.few_states l.few hs he p)

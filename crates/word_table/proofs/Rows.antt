-- Products laid out byte after byte and row after row. What a byte is to be is found by looking at scratch as it is then, and
-- holds of scratch as it was at first, for only later bytes have changed. Assumes nothing.
use Prim.Native.Nat.{ℕ, ◌+◌, ◌*◌, ◌≤◌, ◌<◌}
use mathlib.Core.Path.{refl}
use mathlib.Core.List.{List}
use native.Mathlib.Omega.{arith}
use lib.ListN.{length, set}
use Rattle.scratch.specs.Rows.{RowFilled, RowsFilled}
use Rattle.scratch.proofs.Unchanged.{unchanged_sym, unchanged_wider}
use Rattle.scratch.proofs.Rows.{pair_small, filled_more, rows_more, rows_all}
use Rattle.word_table.specs.Laying.{TableNeeds, RowLaid, AlongWord}
use Rattle.word_table.proofs.Staying.{LaidBehind, needs_stay, along_stays}

module _ {count i : ℕ} {entry : List ℕ} (l : TableNeeds entry count) (hi : i < count) where
  pub row_small : i * count < 4096
  row_small = omega (arith, pair_small count i 0 l.few hi (omega arith))

  module _ {j : ℕ} {now : List ℕ} (r : RowFilled (AlongWord count entry i) (16384 + i * count) j entry now) (hj : j < count) where
    kept : LaidBehind entry now
    kept = unchanged_wider (omega arith) (omega (arith, pair_small count i j l.few hi hj)) r.kept

    pub steps_now : TableNeeds now count
    steps_now = needs_stay kept l

    pub row_now : RowLaid count now i j
    row_now = record { numbers = λ y h. along_stays kept l hi (omega arith) (r.filled y h) }

    pub product_room : 16384 + i * count + j < length now
    product_room = omega (arith, pair_small count i j l.few hi hj, steps_now.room)

    pub product_more : {byte : ℕ} → AlongWord count now i j byte
        → RowFilled (AlongWord count entry i) (16384 + i * count) (j + 1) entry (set now (16384 + i * count + j) byte)
    product_more p = filled_more refl product_room r (along_stays (unchanged_sym kept) steps_now hi hj p)

module _ {count i : ℕ} {entry now : List ℕ} (l : TableNeeds entry count) (r : RowsFilled (AlongWord count entry) 16384 count count i entry now) where
  module _ (hi : i < count) where
    rows_kept : LaidBehind entry now
    rows_kept = unchanged_wider (omega arith) (omega (arith, row_small l hi)) r.kept

    pub steps_rows_now : TableNeeds now count
    steps_rows_now = needs_stay rows_kept l

    pub products_more : {next : List ℕ} → RowFilled (AlongWord count now i) (16384 + i * count) count now next
        → RowsFilled (AlongWord count entry) 16384 count count (i + 1) entry next
    products_more s = rows_more (omega arith) r s (λ j byte hj p. along_stays (unchanged_sym rows_kept) steps_rows_now hi hj p)

  -- all of them
  pub products_all : i ≤ count → count ≤ i → RowsFilled (AlongWord count entry) 16384 count count count entry now
  products_all h g = rows_all h g r

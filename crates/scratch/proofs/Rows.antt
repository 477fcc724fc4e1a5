-- Bytes filled one after the other, and row after row: none, one more, all; and the places of a table's pairs. Assumes nothing.
use Prim.Native.Nat.{ℕ, ◌+◌, ◌*◌, ◌≤◌, ◌<◌}
use mathlib.Core.Path.{◌≡◌, sym, subst}
use mathlib.Core.Logic.{◌≢◌}
use mathlib.Core.List.{List}
use native.Mathlib.Omega.{arith}
use native.Mathlib.Nat.{mul-le-mul}
use native.Mathlib.Decide.{ℕ_discrete}
use lib.Arith.{digits_lt}
use lib.ListN.{length, get_or, set}
use lib.Seq.{get_or-set_same, get_or-set_other}
use Rattle.finite.proofs.Numbers.{row_more}
use Rattle.scratch.specs.Rows.{RowFilled, RowsFilled}
use Rattle.scratch.proofs.Unchanged.{unchanged_none, unchanged_both, unchanged_wider, unchanged_set}

-- at most 64 rows of as many bytes take up no more than 4,096, and a pair has its place among those
pub square_small : {c : ℕ} → c ≤ 64 → c * c ≤ 4096
square_small h = mul-le-mul h h

pub pair_small : (c i j : ℕ) → c ≤ 64 → i < c → j < c → i * c + j < 4096
pair_small c i j h hi hj = omega (arith, digits_lt hi hj, square_small h)

-- no byte is filled
pub filled_none : {P : ℕ → ℕ → Type 0} (base : ℕ) (l : List ℕ) → RowFilled P base 0 l l
filled_none base l = record { filled = λ j h. absurd (omega arith); kept = unchanged_none base (base + 0) l }

-- one more
pub filled_more : {P : ℕ → ℕ → Type 0} {base j at byte : ℕ} {entry now : List ℕ} → at ≡ base + j → base + j < length now → RowFilled P base j entry now → P j byte
    → RowFilled P base (j + 1) entry (set now at byte)
filled_more {P} {base} {j} {at} {byte} {entry} {now} e room w p = record {
  filled = λ l h. cell l h (ℕ_discrete l j);
  kept = unchanged_both (unchanged_wider (omega arith) (omega arith) w.kept) (unchanged_set now at byte (omega arith) (omega arith));
}
  where
    new : P j (get_or (set now at byte) (base + j) 0)
    new = subst (λ (x : ℕ). P j (get_or (set now at byte) x 0)) e (subst (P j) (sym (get_or-set_same now at byte 0 (omega arith))) p)

    cell : (l : ℕ) → l < j + 1 → Dec (l ≡ j) → P l (get_or (set now at byte) (base + l) 0)
    cell l h (yes q) = subst (λ (x : ℕ). P x (get_or (set now at byte) (base + x) 0)) (sym q) new
    cell l h (no g) =
        let d : l ≢ j = g in
        subst (P l) (sym (get_or-set_other now at (base + l) byte 0 (λ r. omega arith))) (w.filled l (omega arith))

-- all
pub filled_all : {P : ℕ → ℕ → Type 0} {base count j : ℕ} {entry now : List ℕ} → j ≤ count → count ≤ j → RowFilled P base j entry now → RowFilled P base count entry now
filled_all {P} {base} {count} {j} {entry} {now} g h w =
    let e : j ≡ count = omega arith in
    subst (λ (x : ℕ). RowFilled P base x entry now) e w

-- no row is filled
pub rows_none : {P : ℕ → ℕ → ℕ → Type 0} (base stride width : ℕ) (l : List ℕ) → RowsFilled P base stride width 0 l l
rows_none base stride width l = record { filled = λ i j h. absurd (omega arith); kept = unchanged_none base (base + 0 * stride) l }

-- one row more, filled with what is asked when the bytes of now are looked at
pub rows_more : {P : ℕ → ℕ → ℕ → Type 0} {Q : ℕ → ℕ → Type 0} {base stride width i : ℕ} {entry now next : List ℕ} → width ≤ stride
    → RowsFilled P base stride width i entry now → RowFilled Q (base + i * stride) width now next → ((j byte : ℕ) → j < width → Q j byte → P i j byte)
    → RowsFilled P base stride width (i + 1) entry next
rows_more {P} {Q} {base} {stride} {width} {i} {entry} {now} {next} h w r asked = record {
  filled = λ a j ha hj. cell a j ha hj (ℕ_discrete a i);
  kept = unchanged_both (unchanged_wider (omega arith) (omega (arith, row_more i stride)) w.kept) (unchanged_wider (omega arith) (omega (arith, row_more i stride)) r.kept);
}
  where
    new : (j : ℕ) → j < width → P i j (get_or next (base + (i * stride + j)) 0)
    new j hj =
        let q : base + i * stride + j ≡ base + (i * stride + j) = omega arith in
        subst (λ (x : ℕ). P i j (get_or next x 0)) q (asked j (get_or next (base + i * stride + j) 0) hj (r.filled j hj))

    cell : (a j : ℕ) → a < i + 1 → j < width → Dec (a ≡ i) → P a j (get_or next (base + (a * stride + j)) 0)
    cell a j ha hj (yes p) = subst (λ (x : ℕ). P x j (get_or next (base + (x * stride + j)) 0)) (sym p) (new j hj)
    cell a j ha hj (no d) =
        let d' : a ≢ i = d in
        let l : a < i = omega arith in
        let k : j < stride = omega arith in
        subst (P a j) (sym (r.kept.before (base + (a * stride + j)) (omega (arith, digits_lt l k)))) (w.filled a j l hj)

-- all rows
pub rows_all : {P : ℕ → ℕ → ℕ → Type 0} {base stride width rows i : ℕ} {entry now : List ℕ} → i ≤ rows → rows ≤ i → RowsFilled P base stride width i entry now
    → RowsFilled P base stride width rows entry now
rows_all {P} {base} {stride} {width} {rows} {i} {entry} {now} g h w =
    let e : i ≡ rows = omega arith in
    subst (λ (x : ℕ). RowsFilled P base stride width x entry now) e w

-- bytes of which more is known
pub rows_known : {P Q : ℕ → ℕ → ℕ → Type 0} {base stride width rows : ℕ} {entry now : List ℕ} → ((i j byte : ℕ) → P i j byte → Q i j byte)
    → RowsFilled P base stride width rows entry now → RowsFilled Q base stride width rows entry now
rows_known f r = record { filled = λ i j hi hj. f i j _ (r.filled i j hi hj); kept = r.kept }

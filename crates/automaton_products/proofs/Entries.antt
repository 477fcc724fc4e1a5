-- A row of a product: the three ways through two entries, and what the row becomes with one state more to go through. Assumes nothing.
use Prim.Native.Nat.{ℕ, zero, suc, max, ◌+◌, ◌≤◌, ◌<◌}
use mathlib.Core.Path.{◌≡◌, refl, sym, ◌∙◌}
use mathlib.Core.Logic.{◌≢◌}
use mathlib.Core.List.{List, []}
use native.Mathlib.Numerals.{add-one}
use native.Mathlib.Omega.{arith}
use borrow.Author.Count.{below_more}
use lib.ListN.{length, get_or, set, replicate, length-set}
use lib.Seq.{get_or-set_same, get_or-set_other}
use Rattle.buchi.specs.Matrices.{entries_through, greatest, product}
use Rattle.automaton_products.specs.Arrays.{entry_in, RowOf, row_product}
use Rattle.automaton_products.proofs.Rows.{zeros_at}

-- ---- through two entries

pub through_none_left : (x y : ℕ) → x ≡ 0 → 0 ≡ entries_through x y
unfolding entries_through
through_none_left zero y e = refl
through_none_left (suc x) y e = absurd (omega arith)

pub through_none_right : (x y : ℕ) → y ≡ 0 → 0 ≡ entries_through x y
unfolding entries_through
through_none_right zero y e = refl
through_none_right (suc x) zero e = refl
through_none_right (suc x) (suc y) e = absurd (omega arith)

pub through_both : (x y : ℕ) {r : ℕ} → (x ≡ 0 → ⊥) → (y ≡ 0 → ⊥) → r ≡ max x y → r ≡ entries_through x y
unfolding entries_through
through_both zero y f g e = absurd (f refl)
through_both (suc x) zero f g e = absurd (g refl)
through_both (suc x) (suc y) f g e = e

-- ---- through one state more

row_product_suc : (n : ℕ) (row : List ℕ) (right : List (List ℕ)) (q : ℕ)
    → row_product (n + 1) row right q ≡ max (entries_through (get_or row n 0) (entry_in right n q)) (row_product n row right q)
unfolding row_product greatest
row_product_suc n row right q = rw add-one

-- a row of the product by the first r of n states
pub record RowBy (n : ℕ) (row : List ℕ) (right : List (List ℕ)) (r : ℕ) (out : List ℕ) : Type 0 where
  pub within : r ≤ n
  pub filled : RowOf (row_product r row right) n out

-- the same, where the first q entries have state r too
pub record RowThrough (n : ℕ) (row : List ℕ) (right : List (List ℕ)) (r q : ℕ) (out : List ℕ) : Type 0 where
  pub within : q ≤ n
  pub six : length out ≡ 6
  pub more : (c : ℕ) → c < q → get_or out c 0 ≡ row_product (r + 1) row right c
  pub rest : (c : ℕ) → q ≤ c → c < n → get_or out c 0 ≡ row_product r row right c
  pub zeros : (c : ℕ) → n ≤ c → get_or out c 0 ≡ 0

module _ {n : ℕ} {row : List ℕ} {right : List (List ℕ)} where
  pub no_state : RowBy n row right 0 (replicate 6 0)
  unfolding row_product greatest
  no_state = record { within = omega arith; filled = record { six = refl; entries = λ q h. zeros_at 6 q; zeros = λ q h. zeros_at 6 q } }

  -- no path leads to state r
  pub state_left_out : {r : ℕ} {out : List ℕ} → RowBy n row right r out → r < n → get_or row r 0 ≡ 0 → RowBy n row right (r + 1) out
  state_left_out {r} {out} k l e =
      let f = k.filled in
      record { within = omega arith; filled = record { six = f.six; entries = same; zeros = f.zeros } }
    where
      same : (q : ℕ) → q < n → get_or out q 0 ≡ row_product (r + 1) row right q
      same q h =
          let s = row_product_suc r row right q in
          let t : 0 ≡ entries_through (get_or row r 0) (entry_in right r q) = through_none_left (get_or row r 0) (entry_in right r q) e in
          omega (arith, s, t, k.filled.entries q h)

  pub state_begun : {r : ℕ} {out : List ℕ} → RowBy n row right r out → RowThrough n row right r 0 out
  state_begun k =
      let f = k.filled in
      record { within = omega arith; six = f.six; more = λ c h. absurd (omega arith); rest = λ c g h. f.entries c h; zeros = f.zeros }

  pub state_more : {r q z v : ℕ} {out : List ℕ} → RowThrough n row right r q out → q < 6 → q < n
      → z ≡ entries_through (get_or row r 0) (get_or (get_or right r []) q 0) → v ≡ max z (get_or out q 0) → RowThrough n row right r (q + 1) (set out q v)
  unfolding entry_in
  state_more {r} {q} {z} {v} {out} k few h f g =
      let l : q < length out = rw k.six few in
      record {
        within = omega arith;
        six = length-set out q v ∙ k.six;
        more = below_more (λ c. get_or (set out q v) c 0 ≡ row_product (r + 1) row right c) q (λ c b. old c (omega arith) ∙ k.more c b)
            (get_or-set_same out q v 0 l ∙ rw (g, f, k.rest q (omega arith) h) (sym (row_product_suc r row right q)));
        rest = λ c b d. old c (omega arith) ∙ k.rest c (omega arith) d;
        zeros = λ c b. old c (omega arith) ∙ k.zeros c b;
      }
    where
      old : (c : ℕ) → c ≢ q → get_or (set out q v) c 0 ≡ get_or out c 0
      old c b = get_or-set_other out q c v 0 b

  pub state_all : {r q : ℕ} {out : List ℕ} → RowThrough n row right r q out → r < n → n ≤ q → RowBy n row right (r + 1) out
  state_all k l g =
      record { within = omega arith; filled = record { six = k.six; entries = λ c h. k.more c (omega arith); zeros = k.zeros } }

  -- every state was gone through
  pub states_all : {r : ℕ} {out : List ℕ} → RowBy n row right r out → n ≤ r → RowOf (row_product n row right) n out
  states_all {r} k l =
      let h = k.within in
      let e : r ≡ n = omega arith in
      rw e at k.filled

-- ---- a row

-- row p of the left factor makes row p of the product
pub row_of_product : (left right : List (List ℕ)) (n p : ℕ) {row : List ℕ} → RowOf (row_product n (get_or left p []) right) n row
    → RowOf (product n (entry_in left) (entry_in right) p) n row
unfolding row_product product entry_in
row_of_product left right n p k = k

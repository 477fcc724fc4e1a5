-- The matrix whose number the table has is the product. Assumes nothing.
use Prim.Native.Nat.{ℕ, ◌+◌, ◌*◌, ◌/◌, ◌%◌, ◌≤◌, ◌<◌}
use mathlib.Core.Path.{◌≡◌, refl, subst}
use mathlib.Core.List.{List, []}
use native.Mathlib.Omega.{arith}
use lib.ListN.{length, get_or, set, replicate}
use Rattle.buchi.specs.Matrices.{SameEntries, product}
use Rattle.buchi.proofs.Products.{product_same, same_sym, same_trans}
use Rattle.automaton_products.specs.Arrays.{entry_in, MatrixShape, RowOf, IsProduct}
use Rattle.automaton_products.proofs.Products.{product_small}
use Rattle.automaton_products.proofs.Rows.{row_none, row_more, rows_none, rows_more, rows_same, rows_shape}
use Rattle.automaton_ready_products.specs.Ready.{matrix_number, numbered, product_number, NumberedAs, ReadyTable, LentTable}
use Rattle.automaton_ready_products.proofs.Digits.{SmallEntries, number_below, number_digits, numbered_small}

-- ---- the matrix of a number, row by row

two_entries : {f : ℕ → ℕ} {x y : ℕ} → x ≡ f 0 → y ≡ f 1 → RowOf f 2 (set (set (replicate 6 0) 0 x) 1 y)
two_entries e g = row_more (row_more row_none (omega arith) e) (omega arith) g

pub rows_numbered : (x : ℕ) → NumberedAs x (set (set (replicate 6 (replicate 6 0)) 0 (set (set (replicate 6 0) 0 (x / 27 % 3)) 1 (x / 9 % 3))) 1
    (set (set (replicate 6 0) 0 (x / 3 % 3)) 1 (x % 3)))
unfolding numbered
rows_numbered x =
    let rows = rows_more (rows_more (rows_none {f = numbered x} {n = 2}) (omega arith) (two_entries refl refl)) (omega arith) (two_entries refl refl) in
    record { shape = rows_shape rows (omega arith) (λ p q hp hq. numbered_small x p q); same = rows_same rows (omega arith) }

-- ---- the number of a matrix

-- the four entries of two states
pub record FourEntries (m : List (List ℕ)) : Type 0 where
  pub e00 : get_or (get_or m 0 []) 0 0 ≤ 2
  pub e01 : get_or (get_or m 0 []) 1 0 ≤ 2
  pub e10 : get_or (get_or m 1 []) 0 0 ≤ 2
  pub e11 : get_or (get_or m 1 []) 1 0 ≤ 2

pub four_entries : {m : List (List ℕ)} → MatrixShape 2 m → FourEntries m
unfolding entry_in
four_entries s =
    let small = s.entries.small in
    record {
      e00 = small 0 0 (omega arith) (omega arith);
      e01 = small 0 1 (omega arith) (omega arith);
      e10 = small 1 0 (omega arith) (omega arith);
      e11 = small 1 1 (omega arith) (omega arith);
    }

-- ---- the product

entries_small : {m : List (List ℕ)} → MatrixShape 2 m → SmallEntries (entry_in m)
entries_small s = record { small = λ p q hp hq. s.entries.small p q (omega arith) (omega arith) }

pub shape_below : {m : List (List ℕ)} → MatrixShape 2 m → matrix_number (entry_in m) < 81
shape_below s = number_below (entries_small s)

module _ {left right : List (List ℕ)} (a : MatrixShape 2 left) (b : MatrixShape 2 right) where
  abbrev found : ℕ
  found = product_number (matrix_number (entry_in left)) (matrix_number (entry_in right))

  -- the number in the table is that of a matrix with the product's entries
  found_product : SameEntries 2 (product 2 (entry_in left) (entry_in right)) (numbered found)
  unfolding product_number
  found_product =
      let same : SameEntries 2 (product 2 (numbered (matrix_number (entry_in left))) (numbered (matrix_number (entry_in right)))) (product 2 (entry_in left) (entry_in right))
      = product_same (number_digits (entries_small a)) (number_digits (entries_small b)) in
      let small : SmallEntries (product 2 (numbered (matrix_number (entry_in left))) (numbered (matrix_number (entry_in right))))
      = record { small = λ p q hp hq. subst (λ (e : ℕ). e ≤ 2) ((same_sym same).same p q hp hq) (product_small (omega arith) a.entries b.entries p q hp hq) } in
      same_trans (same_sym same) (same_sym (number_digits small))

  module _ {table : List ℕ} (t : ReadyTable table) where
    pub ready_is_product : {x y : ℕ} {m : List (List ℕ)} → x ≡ matrix_number (entry_in left) → y ≡ matrix_number (entry_in right)
        → NumberedAs (get_or table (x * 81 + y) 0) m → IsProduct 2 left right m
    ready_is_product {x} {y} {m} e f k =
        let at : get_or table (x * 81 + y) 0 ≡ found = rw (e, f) (t.products (matrix_number (entry_in left)) (matrix_number (entry_in right)) (shape_below a) (shape_below b)) in
        let k' : NumberedAs found m = rw at at k in
        record { shape = k'.shape; same = same_trans found_product k'.same }

-- two states, and a table that is not empty
pub two_states : {n : ℕ} {left right : List (List ℕ)} {table : List ℕ} → n ≡ 2 → MatrixShape n left × MatrixShape n right → LentTable table → 0 < length table
    → (MatrixShape 2 left × MatrixShape 2 right) × ReadyTable table
two_states {left = left} {right = right} e shapes lent some =
    ((subst (λ (k : ℕ). MatrixShape k left) e shapes.0, subst (λ (k : ℕ). MatrixShape k right) e shapes.1), lent.ready some)

pub two_product : {n : ℕ} {left right m : List (List ℕ)} → n ≡ 2 → IsProduct 2 left right m → IsProduct n left right m
two_product e p = rw e p

-- The product of two matrices, row by row. Assumes nothing.
use Prim.Native.Nat.{ℕ, ◌≤◌, ◌<◌}
use mathlib.Core.Path.{◌≡◌}
use mathlib.Core.Logic.{⊎_elim}
use mathlib.Core.List.{List}
use native.Mathlib.Omega.{arith}
use Rattle.finite.proofs.Numbers.{le_or_lt}
use Rattle.buchi.specs.Matrices.{Matrix, product}
use Rattle.buchi.proofs.Products.{Via, product_elim}
use Rattle.automaton_products.specs.Arrays.{entry_in, StateEntries, MatrixShape, IsProduct}
use Rattle.automaton_products.proofs.Rows.{RowsOf, rows_same, rows_shape}

-- entries of at most 2 have products of at most 2
pub product_small : {n : ℕ} {M N : Matrix} → n ≤ 6 → StateEntries n M → StateEntries n N → (p q : ℕ) → p < n → q < n → product n M N p q ≤ 2
product_small {n} {M} {N} few left right p q hp hq =
    ⊎_elim (λ h. h) (λ h. absurd (too_high (product_elim n M N p q (omega arith) h))) (le_or_lt (product n M N p q) 2)
  where
    too_high : Via n M N p q 3 → ⊥
    too_high k =
        let l = k.inside in
        ⊎_elim (λ h. omega (arith, left.small p k.r (omega arith) (omega arith))) (λ h. omega (arith, right.small k.r q (omega arith) (omega arith)))
        k.passes.either

-- rows filled with the entries of the product are the product
pub product_filled : {n p : ℕ} {left right m : List (List ℕ)} → n ≤ 6 → MatrixShape n left → MatrixShape n right → p ≤ n → n ≤ p
    → RowsOf (product n (entry_in left) (entry_in right)) p n m → IsProduct n left right m
product_filled {n} {p} {left} {right} {m} few a b l g r =
    let e : p ≡ n = omega arith in
    let r' : RowsOf (product n (entry_in left) (entry_in right)) n n m = rw e at r in
    record { shape = rows_shape r' few (product_small few a.entries b.entries); same = rows_same r' few }

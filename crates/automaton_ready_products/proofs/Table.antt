-- The rule of the table, at each of its entries, by one test that is computed from one entry to the next. Assumes nothing.
use mathlib.Core.Path.{◌≡◌, ◌∙◌, subst, sym, ap}
use mathlib.Core.Bool.{Bool, true, false, ◌&&◌}
use mathlib.Core.List.{List, [], ◌∷◌}
use Prim.Native.Nat.{ℕ, zero, suc, ◌+◌, ◌*◌, ◌/◌, ◌%◌, ◌<◌}
use native.Mathlib.Nat.{add-zero, zero-add, add-suc, suc-add, le_of_suc-le-suc, not-suc-le-zero}
use native.Mathlib.Omega.{arith}
use lib.Dec.{T, eqb, eqb→eq}
use lib.ListN.{length, get_or}
use Rattle.automaton_ready_products.specs.Ready.{product_number, ReadyTable}
use Rattle.automaton_ready_products.proofs.Digits.{digits_before, last_digit}

-- ---- a test of each entry

both_left : (a b : Bool) → T (a && b) → T a
both_left true b t = tt
both_left false b t = t

both_right : (a b : Bool) → T (a && b) → T b
both_right true b t = t
both_right false b t = absurd t

-- the entries of a list pass a test with their places, counted from i on
abbrev pub pass_all : (ℕ → ℕ → Bool) → ℕ → List ℕ → Bool
pass_all test i [] = true
pass_all test i (x ∷ xs) = test i x && pass_all test (suc i) xs

pass_from : (test : ℕ → ℕ → Bool) (xs : List ℕ) (i : ℕ) → T (pass_all test i xs) → (k : ℕ) → k < length xs → T (test (i + k) (get_or xs k 0))
pass_from test [] i t k h = absurd (not-suc-le-zero h)
pass_from test (x ∷ xs) i t zero h = subst (λ (m : ℕ). T (test m x)) (sym (add-zero i)) (both_left (test i x) (pass_all test (suc i) xs) t)
pass_from test (x ∷ xs) i t (suc k) h =
    subst (λ (m : ℕ). T (test m (get_or xs k 0))) (suc-add i k ∙ sym (add-suc i k))
    (pass_from test xs (suc i) (both_right (test i x) (pass_all test (suc i) xs) t) k (le_of_suc-le-suc h))

-- ---- the table of products

-- the entry at a * 81 + b is the number of the product of a and b
abbrev pub is_product : ℕ → ℕ → Bool
is_product place x = eqb x (product_number (place / 81) (place % 81))

pub table_ready : (table : List ℕ) → length table ≡ 6561 → T (pass_all is_product 0 table) → ReadyTable table
table_ready table long t = record { entries = long; products = entry }
  where
    entry : (a b : ℕ) → a < 81 → b < 81 → get_or table (a * 81 + b) 0 ≡ product_number a b
    entry a b ha hb =
        let at : T (is_product (a * 81 + b) (get_or table (a * 81 + b) 0)) = subst (λ (m : ℕ). T (is_product m (get_or table (a * 81 + b) 0))) (zero-add (a * 81 + b)) (pass_from is_product table 0 t (a * 81 + b) (omega (arith, long))) in
        eqb→eq (get_or table (a * 81 + b) 0) (product_number ((a * 81 + b) / 81) ((a * 81 + b) % 81)) at
        ∙ ap (λ (x : ℕ). product_number x ((a * 81 + b) % 81)) (digits_before a b 81 (omega arith) hb)
        ∙ ap (product_number a) (last_digit a b 81 hb)

-- A matrix compared with the bytes of a stored one from the front: nothing differs so far, all agree, or something differs.
-- Assumes nothing.
use Prim.Native.Nat.{ℕ, ◌+◌, ◌*◌, ◌≤◌, ◌<◌}
use mathlib.Core.Path.{◌≡◌, sym, subst, ap, ◌∙◌}
use mathlib.Core.Bool.{Bool, true, false}
use mathlib.Core.List.{List, []}
use native.Mathlib.Omega.{arith}
use borrow.Author.Count.{below_more}
use lib.ListN.{length, get_or, take}
use lib.Dec.{T, eqb}
use Rattle.std.specs.Bool.{Decides}
use Rattle.std.specs.List.{between}
use Rattle.std.specs.Cmp.Lexicographic.{pointwise}
use Rattle.std.proofs.lemmas.Bool.Decides.{Decides-eqb}
use Rattle.std.proofs.lemmas.Grind.{same_number_lists}
use Rattle.std.proofs.lemmas.List.{length-take-le, get_or-take}
use Rattle.std.proofs.lemmas.List.Edits.{length-between, get_or-between}
use Rattle.std.proofs.lemmas.Slice.Eq.{slice_eq-Decides}
use mir.Facts.{eqb_yes, yes_eqb}
use Rattle.finite.proofs.Tests.{T_true, T_false, true_T, tests_equal}
use Rattle.finite.proofs.Search.{all_intro, all_elim}
use Rattle.buchi.proofs.MatrixTests.{same_test, same_intro, same_elim}
use Rattle.automaton_products.specs.Arrays.{entry_in}
use Rattle.automaton_matrices.specs.Bytes.{matrix_from, bytes_from, same_bytes}
use Rattle.automaton_matrices.proofs.Storing.{row_bytes}

-- ---- rows

module _ (scratch : List ℕ) (at n : ℕ) (row : List ℕ) where
  agree_test : ((q : ℕ) → q < n → get_or row q 0 ≡ bytes_from scratch at q) → T (same_bytes scratch at n row)
  unfolding same_bytes
  agree_test f = all_intro n (λ q. eqb (get_or row q 0) (bytes_from scratch at q)) (λ q l. yes_eqb (f q l))

  test_agrees : T (same_bytes scratch at n row) → (q : ℕ) → q < n → get_or row q 0 ≡ bytes_from scratch at q
  unfolding same_bytes
  test_agrees t q l = eqb_yes (all_elim n (λ q. eqb (get_or row q 0) (bytes_from scratch at q)) t q l)

-- the parts are told to be the same by a comparison of them
pub parts_same : (scratch : List ℕ) (at n : ℕ) (row : List ℕ) → n ≤ 6 → at + 6 ≤ length scratch → length row ≡ 6 → (answer : Bool)
    → answer ≡ pointwise eqb (take n row) (between at (at + n) scratch) → answer ≡ same_bytes scratch at n row
unfolding bytes_from
parts_same scratch at n row few room six answer e = tests_equal answer _ (λ x. there (T_true answer x)) (λ x. true_T (back x))
  where
    front : (q : ℕ) → q < n → get_or (take n row) q 0 ≡ get_or row q 0
    front q l = get_or-take n row q 0 l

    bytes : (q : ℕ) → q < n → get_or (between at (at + n) scratch) q 0 ≡ bytes_from scratch at q
    bytes q l = get_or-between scratch at (at + n) q 0 (omega arith)

    front_long : length (take n row) ≡ n
    front_long = length-take-le n row (omega (arith, six))

    bytes_long : length (between at (at + n) scratch) ≡ n
    bytes_long = omega (arith, length-between scratch at (at + n) (omega (arith, room, few)))

    told : Decides answer (take n row ≡ between at (at + n) scratch)
    told = slice_eq-Decides Decides-eqb _ _ answer e

    there : answer ≡ true → T (same_bytes scratch at n row)
    there a = agree_test scratch at n row (λ q l. sym (front q l) ∙ ap (λ (xs : List ℕ). get_or xs q 0) (told.0 a) ∙ bytes q l)

    back : T (same_bytes scratch at n row) → answer ≡ true
    back t = told.1 (same_number_lists _ _ (front_long ∙ sym bytes_long) (λ q l. let m : q < n = omega (arith, front_long) in front q m ∙ test_agrees scratch at n row t q m ∙ sym (bytes q m)))

-- ---- matrices

-- the first k of n rows agree
pub record RowsAgree (scratch : List ℕ) (base i n : ℕ) (m : List (List ℕ)) (k : ℕ) : Type 0 where
  pub within : k ≤ n
  pub same : (p : ℕ) → p < k → (q : ℕ) → q < n → entry_in m p q ≡ matrix_from scratch base i p q

module _ {scratch : List ℕ} {base i n : ℕ} {m : List (List ℕ)} where
  pub rows_agree_none : RowsAgree scratch base i n m 0
  rows_agree_none = record { within = omega arith; same = λ p h. absurd (omega arith) }

  module _ {k : ℕ} {b : Bool} (a : RowsAgree scratch base i n m k) (h : k < n) (e : b ≡ same_bytes scratch (base + (i * 64 + k * 6)) n (get_or m k [])) where
    pub rows_agree_more : b ≡ true → RowsAgree scratch base i n m (k + 1)
    unfolding entry_in
    rows_agree_more t = record {
      within = omega arith;
      same =
          below_more (λ p. (q : ℕ) → q < n → entry_in m p q ≡ matrix_from scratch base i p q) k a.same
          (λ q l. test_agrees scratch (base + (i * 64 + k * 6)) n (get_or m k []) (subst T e (true_T t)) q l ∙ row_bytes scratch base i k q);
    }

    pub row_differs : b ≡ false → false ≡ same_test n (entry_in m) (matrix_from scratch base i)
    unfolding entry_in
    row_differs f =
        sym (T_false (same_test n (entry_in m) (matrix_from scratch base i)) (λ t. subst T f (subst T (sym e) (agree_test scratch (base + (i * 64 + k * 6)) n (get_or m k []) (λ q l. agrees t q l ∙ sym (row_bytes scratch base i k q))))))
      where
        agrees : T (same_test n (entry_in m) (matrix_from scratch base i)) → (q : ℕ) → q < n → entry_in m k q ≡ matrix_from scratch base i k q
        agrees t q l = (same_elim n (entry_in m) (matrix_from scratch base i) t).same k q h l

  pub rows_agree_all : {k : ℕ} → RowsAgree scratch base i n m k → n ≤ k → true ≡ same_test n (entry_in m) (matrix_from scratch base i)
  rows_agree_all a h =
      sym
      (T_true (same_test n (entry_in m) (matrix_from scratch base i))
      (same_intro n (entry_in m) (matrix_from scratch base i) (record { same = λ p q hp hq. a.same p (omega arith) q hq })))

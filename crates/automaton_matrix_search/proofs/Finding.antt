-- The search of the list for a matrix: the first whose entries are the same, or none. Assumes nothing.
use Prim.Native.Nat.{ℕ, ◌+◌, ◌≤◌, ◌<◌}
use mathlib.Core.Path.{◌≡◌, sym, subst}
use mathlib.Core.Bool.{Bool, true, false}
use mathlib.Core.List.{List}
use native.Mathlib.Omega.{arith}
use borrow.Author.Count.{below_more}
use lib.Dec.{T}
use Rattle.finite.proofs.Tests.{true_T}
use Rattle.finite.proofs.Search.{least_unique, least_none, least_first, least_holds}
use Rattle.buchi.specs.Matrices.{Matrix, SameEntries, OtherEntry}
use Rattle.buchi.proofs.MatrixTests.{same_test, same_elim, other_elim}
use Rattle.buchi.proofs.MatrixLists.{number_of}
use Rattle.automaton_products.specs.Arrays.{entry_in}
use Rattle.automaton_matrices.specs.Bytes.{MatrixNeeds}
use Rattle.automaton_matrix_search.specs.Lists.{matrix_at, MatrixList}
use Rattle.automaton_matrix_search.specs.Steps.{MatrixThere}

-- a matrix of the list has its bytes
pub list_place : {n count i : ℕ} {scratch : List ℕ} → MatrixList n scratch count → i < 64 → MatrixNeeds scratch 8192 i
list_place k h = let room = k.room in record { room = omega arith }

-- ---- the search

-- none of the first i has the entries of m
pub record Unfound (n : ℕ) (scratch : List ℕ) (count : ℕ) (m : List (List ℕ)) (i : ℕ) : Type 0 where
  pub within : i ≤ count
  pub others : (j : ℕ) → j < i → ¬ T (same_test n (entry_in m) (matrix_at scratch j))

module _ {n : ℕ} {scratch : List ℕ} {count : ℕ} {m : List (List ℕ)} where
  pub unfound_start : Unfound n scratch count m 0
  unfound_start = record { within = omega arith; others = λ j h. absurd (omega arith) }

  module _ {i : ℕ} {b : Bool} (u : Unfound n scratch count m i) (h : i < count) (e : b ≡ same_test n (entry_in m) (matrix_at scratch i)) where
    pub found_here : b ≡ true → MatrixThere n scratch count m i
    unfolding number_of
    found_here t = record { below = h; first = least_unique count (λ j. same_test n (entry_in m) (matrix_at scratch j)) i (omega arith) (λ g. subst T e (true_T t)) u.others }

    pub unfound_more : b ≡ false → Unfound n scratch count m (i + 1)
    unfound_more f = record {
      within = omega arith;
      others = below_more (λ j. ¬ T (same_test n (entry_in m) (matrix_at scratch j))) i u.others (λ t. subst T f (subst T (sym e) t));
    }

  pub unfound_all : {i : ℕ} → Unfound n scratch count m i → count ≤ i → count ≡ number_of n count (matrix_at scratch) (entry_in m)
  unfolding number_of
  unfound_all u h = sym (least_none count (λ j. same_test n (entry_in m) (matrix_at scratch j)) (λ j l. u.others j (omega arith)))

-- ---- what its answer says

module _ {n count at : ℕ} (matrix : ℕ → Matrix) (M : Matrix) (e : at ≡ number_of n count matrix M) where
  pub answer_same : at < count → SameEntries n M (matrix at)
  unfolding number_of
  answer_same h = same_elim n M (matrix at) (subst (λ i. T (same_test n M (matrix i))) (sym e) (least_holds count (λ j. same_test n M (matrix j)) (subst (λ i. i < count) e h)))

  pub answer_other : count ≤ at → (i : ℕ) → i < count → OtherEntry n M (matrix i)
  unfolding number_of
  answer_other h i l = other_elim n M (matrix i) (least_first count (λ j. same_test n M (matrix j)) i (subst (λ j. i < j) e (omega arith)))

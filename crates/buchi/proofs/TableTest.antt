-- A test that finds by computing that a given table is one of an automaton's matrices. Assumes nothing.
use Prim.Native.Nat.{ℕ}
use mathlib.Core.Path.{◌≡◌}
use mathlib.Core.Bool.{Bool, not, ◌&&◌, ◌||◌}
use mathlib.Core.Logic.{⊎_elim}
use lib.Dec.{T, eqb}
use mir.Facts.{eqb_yes}
use Rattle.finite.proofs.Tests.{T_and_left, T_and_right, T_or_cases, not_T}
use Rattle.finite.proofs.Search.{all_below, all_elim}
use Rattle.theory.specs.Rules.{Morphism, Lawful, AllReached}
use Rattle.theory.proofs.TableTests.{all_pairs, all_pairs_elim}
use Rattle.buchi.specs.Automata.{Automaton}
use Rattle.buchi.specs.Matrices.{Matrix, OtherEntry, product}
use Rattle.buchi.specs.Rule.{MatricesOf}
use Rattle.buchi.proofs.WordMatrices.{letter_matrix}
use Rattle.buchi.proofs.MatrixTests.{same_test, same_elim, other_elim}
use Rattle.buchi.proofs.MatrixTables.{TableOf, table_matrices, reached_word}

module _ (a : Automaton) (m : Morphism) (matrix : ℕ → Matrix) where
  -- the element of each letter has the letter's matrix
  unfoldable pub letters_test : Bool
  letters_test = all_below m.letters (λ x. same_test a.states (letter_matrix a x) (matrix (m.image x)))

  -- the product of two elements has the product of their matrices
  unfoldable pub product_is : ℕ → ℕ → Bool
  product_is s t = same_test a.states (product a.states (matrix s) (matrix t)) (matrix (m.product s t))

  -- two elements are equal or have different matrices
  unfoldable pub apart_test : ℕ → ℕ → Bool
  apart_test s t = eqb s t || not (same_test a.states (matrix s) (matrix t))

  unfoldable pub matrices_test : Bool
  matrices_test = letters_test && (all_pairs m.size product_is && all_pairs m.size apart_test)

  -- a lawful table that passes and whose elements are words' values has the matrices of all non-empty words for its elements
  pub matrices_elim : Lawful m → AllReached m → m.letters ≡ a.letters → T matrices_test → MatricesOf a m matrix
  unfolding matrices_test letters_test product_is apart_test
  matrices_elim law reached e t = table_matrices table (reached_word table reached)
    where
      rest : T (all_pairs m.size product_is && all_pairs m.size apart_test)
      rest = T_and_right letters_test _ t

      distinct : (s r : ℕ) → ¬ (s ≡ r) → T (apart_test s r) → OtherEntry a.states (matrix s) (matrix r)
      distinct s r f h =
          ⊎_elim (λ g. absurd (f (eqb_yes g))) (λ g. other_elim a.states (matrix s) (matrix r) (not_T (same_test a.states (matrix s) (matrix r)) g))
          (T_or_cases (eqb s r) (not (same_test a.states (matrix s) (matrix r))) h)

      table : TableOf a m matrix
      table = record {
        same_letters = e;
        images = law.images;
        closed = law.closed;
        letters = λ x h. same_elim a.states (letter_matrix a x) (matrix (m.image x))
            (all_elim m.letters (λ x. same_test a.states (letter_matrix a x) (matrix (m.image x))) (T_and_left letters_test _ t) x h);
        products = λ s r hs hr. same_elim a.states (product a.states (matrix s) (matrix r)) (matrix (m.product s r))
            (all_pairs_elim m.size product_is (T_and_left (all_pairs m.size product_is) _ rest) s r hs hr);
        apart = λ s r hs hr f. distinct s r f (all_pairs_elim m.size apart_test (T_and_right (all_pairs m.size product_is) _ rest) s r hs hr);
      }

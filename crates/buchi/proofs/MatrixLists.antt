-- A list of different matrices of words that has the matrix of each letter and, with each of its matrices, the products of it
-- with the letters' matrices, has the matrix of every non-empty word. Numbered in its order it is a rule's table, whose product
-- and images are found by searching the list. Assumes nothing.
use Prim.Native.Nat.{ℕ, zero, suc, ◌≤◌, ◌<◌}
use mathlib.Core.Path.{◌≡◌, refl, sym, subst}
use mathlib.Core.List.{List, [], ◌∷◌, ◌++◌, append-nil, append_assoc}
use native.Mathlib.Omega.{arith}
use Rattle.finite.proofs.Search.{least_below, least_bound, least_holds}
use Rattle.finite.proofs.FirstWords.{Sooner}
use Rattle.theory.specs.Words.{Over, over_nil, over_cons}
use Rattle.theory.specs.Rules.{Morphism, Lawful}
use Rattle.buchi.specs.Automata.{Automaton}
use Rattle.buchi.specs.Matrices.{Matrix, IsMatrix, SameEntries, OtherEntry, product}
use Rattle.buchi.specs.Rule.{MatrixWord, MatricesOf}
use Rattle.buchi.proofs.WordMatrices.{matrix_same, matrix_unique, matrix_append, letter_matrix, letter_is_matrix}
use Rattle.buchi.proofs.MatrixTests.{same_test, same_intro, same_elim}
use Rattle.buchi.proofs.MatrixTables.{TableOf, table_lawful, table_matrices}

-- ---- searching a list

-- one of the first c matrices has the entries of M
pub record Among (n c : ℕ) (matrix : ℕ → Matrix) (M : Matrix) : Type 0 where
  pub at : ℕ
  pub below : at < c
  pub same : SameEntries n M (matrix at)

-- the number of the first that has, c where none has
unfoldable pub number_of : ℕ → ℕ → (ℕ → Matrix) → Matrix → ℕ
number_of n c matrix M = least_below c (λ i. same_test n M (matrix i))

module _ {n c : ℕ} {matrix : ℕ → Matrix} {M : Matrix} (k : Among n c matrix M) where
  pub number_below : number_of n c matrix M < c
  unfolding number_of
  number_below =
      let h = k.below in
      omega (arith, least_bound c (λ i. same_test n M (matrix i)) k.at k.below (same_intro n M (matrix k.at) k.same))

  pub number_same : SameEntries n M (matrix (number_of n c matrix M))
  unfolding number_of
  number_same = same_elim n M (matrix (number_of n c matrix M)) (least_holds c (λ i. same_test n M (matrix i)) number_below)

-- ---- a list that is closed under the letters

-- the first c matrices are different matrices of words; the letters' matrices are among them, and so are the products of each
-- of them with a letter's matrix
pub record ClosedList (a : Automaton) (c : ℕ) (matrix : ℕ → Matrix) : Type 0 where
  pub words : (i : ℕ) → i < c → MatrixWord a (matrix i)
  pub apart : (i j : ℕ) → i < c → j < c → ¬ (i ≡ j) → OtherEntry a.states (matrix i) (matrix j)
  pub letters : (x : ℕ) → x < a.letters → Among a.states c matrix (letter_matrix a x)
  pub steps : (i x : ℕ) → i < c → x < a.letters → Among a.states c matrix (product a.states (matrix i) (letter_matrix a x))

-- what letter x makes of entry p of the search: of entry 0, the empty word, the letter's own matrix, and of entry i + 1 the
-- product of matrix i with it
unfoldable pub step_matrix : Automaton → (ℕ → Matrix) → ℕ → ℕ → Matrix
step_matrix a matrix zero x = letter_matrix a x
step_matrix a matrix (suc i) x = product a.states (matrix i) (letter_matrix a x)

-- matrix j was found from entry p by letter x, and whatever is found sooner stands before it
pub record FoundFrom (a : Automaton) (matrix : ℕ → Matrix) (j p x : ℕ) : Type 0 where
  pub parent_before : p ≤ j
  pub letter_lt : x < a.letters
  pub same : SameEntries a.states (step_matrix a matrix p x) (matrix j)
  pub sooner : (q y : ℕ) → Sooner q y p x → y < a.letters → Among a.states j matrix (step_matrix a matrix q y)

-- matrix j was found from some entry by some letter
pub record FoundMatrix (a : Automaton) (matrix : ℕ → Matrix) (j : ℕ) : Type 0 where
  pub parent : ℕ
  pub letter : ℕ
  pub found : FoundFrom a matrix j parent letter

-- the first c matrices stand in the order in which a search in breadth finds them
pub record FoundInOrder (a : Automaton) (c : ℕ) (matrix : ℕ → Matrix) : Type 0 where
  pub found : (j : ℕ) → j < c → FoundMatrix a matrix j

-- the matrix of w is among them
pub record WordAmong (a : Automaton) (c : ℕ) (matrix : ℕ → Matrix) (w : List ℕ) : Type 0 where
  pub at : ℕ
  pub below : at < c
  pub is_matrix : IsMatrix a w (matrix at)

module _ {a : Automaton} {c : ℕ} {matrix : ℕ → Matrix} (list : ClosedList a c matrix) where
  -- one letter more
  letter_more : {w : List ℕ} {x : ℕ} → x < a.letters → WordAmong a c matrix w → WordAmong a c matrix (w ++ (x ∷ []))
  letter_more {w} {x} h k =
      let j = list.steps k.at x k.below h in
      record { at = j.at; below = j.below; is_matrix = matrix_same j.same (matrix_append k.is_matrix (letter_is_matrix a x)) }

  -- a word more
  pub word_more : (w : List ℕ) {v : List ℕ} → Over a.letters v → WordAmong a c matrix w → WordAmong a c matrix (w ++ v)
  word_more w over_nil k = subst (WordAmong a c matrix) (sym (append-nil w)) k
  word_more w (over_cons {a = x} {w = v} h o) k =
      subst (WordAmong a c matrix) (append_assoc w (x ∷ []) v) (word_more (w ++ (x ∷ [])) o (letter_more h k))

  -- the matrix of every non-empty word
  pub every_word : {x : ℕ} {w : List ℕ} → x < a.letters → Over a.letters w → WordAmong a c matrix (x ∷ w)
  every_word {x} {w} h o =
      let j = list.letters x h in
      word_more (x ∷ []) o (record { at = j.at; below = j.below; is_matrix = matrix_same j.same (letter_is_matrix a x) })

  -- the product of any two of them
  pub every_product : (i j : ℕ) → i < c → j < c → Among a.states c matrix (product a.states (matrix i) (matrix j))
  every_product i j hi hj =
      let x = list.words i hi in
      let y = list.words j hj in
      let k = word_more x.word y.over (record { at = i; below = hi; is_matrix = x.is_matrix }) in
      record { at = k.at; below = k.below; same = matrix_unique (matrix_append x.is_matrix y.is_matrix) k.is_matrix }

-- ---- the table

-- the list's matrices as elements
unfoldable pub listed_morphism : Automaton → ℕ → (ℕ → Matrix) → Morphism
listed_morphism a c matrix = record {
  size = c;
  letters = a.letters;
  product = λ i j. number_of a.states c matrix (product a.states (matrix i) (matrix j));
  image = λ x. number_of a.states c matrix (letter_matrix a x);
}

module _ {a : Automaton} {c : ℕ} {matrix : ℕ → Matrix} (list : ClosedList a c matrix) where
  listed_table : TableOf a (listed_morphism a c matrix) matrix
  unfolding listed_morphism
  listed_table = record {
    same_letters = refl;
    images = λ x h. number_below (list.letters x h);
    closed = λ i j hi hj. number_below (every_product list i j hi hj);
    letters = λ x h. number_same (list.letters x h);
    products = λ i j hi hj. number_same (every_product list i j hi hj);
    apart = list.apart;
  }

  pub listed_lawful : Lawful (listed_morphism a c matrix)
  listed_lawful = table_lawful listed_table

  pub listed_matrices : MatricesOf a (listed_morphism a c matrix) matrix
  unfolding listed_morphism
  listed_matrices = table_matrices listed_table list.words

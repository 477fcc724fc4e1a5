-- A table of matrices: where each letter's element has the letter's matrix, the product of elements has the product of their
-- matrices and different elements have different matrices, the table is associative, each word has the matrix of its value,
-- and, where each element has a word, the elements are the matrices of all non-empty words. Assumes nothing.
use Prim.Native.Nat.{ℕ, ◌<◌}
use mathlib.Core.Path.{◌≡◌, refl, sym, ap, subst, ◌∙◌}
use mathlib.Core.List.{List, [], ◌∷◌}
use Rattle.theory.specs.Words.{Over, over_nil, over_cons}
use Rattle.theory.specs.Rules.{Morphism, Lawful, element, join, value, AllReached}
use Rattle.theory.proofs.Values.{element_same, element_apart, value_some}
use Rattle.buchi.specs.Automata.{Automaton}
use Rattle.buchi.specs.Matrices.{Matrix, IsMatrix, SameEntries, OtherEntry, product}
use Rattle.buchi.specs.Rule.{MatrixWord, MatricesOf}
use Rattle.buchi.proofs.Products.{product_along, same_sym, same_trans, equal_numbers}
use Rattle.buchi.proofs.WordMatrices.{matrix_same, matrix_append, letter_matrix, letter_is_matrix}

-- the table's elements are matrices, and its product is theirs
pub record TableOf (a : Automaton) (m : Morphism) (matrix : ℕ → Matrix) : Type 0 where
  pub same_letters : m.letters ≡ a.letters
  pub images : (x : ℕ) → x < m.letters → m.image x < m.size
  pub closed : (s t : ℕ) → s < m.size → t < m.size → m.product s t < m.size
  pub letters : (x : ℕ) → x < m.letters → SameEntries a.states (letter_matrix a x) (matrix (m.image x))
  pub products : (s t : ℕ) → s < m.size → t < m.size → SameEntries a.states (product a.states (matrix s) (matrix t)) (matrix (m.product s t))
  pub apart : (s t : ℕ) → s < m.size → t < m.size → ¬ (s ≡ t) → OtherEntry a.states (matrix s) (matrix t)

-- the value of a word, with its matrix
record MatrixValue (a : Automaton) (m : Morphism) (matrix : ℕ → Matrix) (w : List ℕ) : Type 0 where
  the : ℕ
  inside : the < m.size
  is : value m w ≡ element the
  is_matrix : IsMatrix a w (matrix the)

module _ {a : Automaton} {m : Morphism} {matrix : ℕ → Matrix} (table : TableOf a m matrix) where
  -- elements whose matrices have the same entries are equal
  injective : {s t : ℕ} → s < m.size → t < m.size → SameEntries a.states (matrix s) (matrix t) → s ≡ t
  injective {s} {t} hs ht = equal_numbers (table.apart s t hs ht)

  -- the table is associative because the product of matrices is
  associates : (r s t : ℕ) → r < m.size → s < m.size → t < m.size → m.product (m.product r s) t ≡ m.product r (m.product s t)
  associates r s t hr hs ht =
      let hrs = table.closed r s hr hs in
      let hst = table.closed s t hs ht in
      injective (table.closed (m.product r s) t hrs ht) (table.closed r (m.product s t) hr hst)
      (same_trans (same_sym (product_along (matrix r) (matrix s) (matrix t) (table.products r s hr hs) (table.products s t hs ht) (table.products (m.product r s) t hrs ht)))
      (table.products r (m.product s t) hr hst))

  pub table_lawful : Lawful m
  table_lawful = record { closed = table.closed; associative = associates; images = table.images }

  -- a word of one letter, and a letter before a word
  letter_element : {x : ℕ} → x < m.letters → MatrixValue a m matrix (x ∷ [])
  unfolding value join
  letter_element {x} h = record { the = m.image x; inside = table.images x h; is = refl; is_matrix = matrix_same (table.letters x h) (letter_is_matrix a x) }

  letter_before : {x : ℕ} {w : List ℕ} → x < m.letters → MatrixValue a m matrix w → MatrixValue a m matrix (x ∷ w)
  unfolding value join letter_element
  letter_before {x} {w} h v = record {
    the = m.product (m.image x) v.the;
    inside = table.closed (m.image x) v.the (table.images x h) v.inside;
    is = ap (join m (element (m.image x))) v.is;
    is_matrix = matrix_same (table.products (m.image x) v.the (table.images x h) v.inside) (matrix_append (letter_element h).is_matrix v.is_matrix);
  }

  each_element : {x : ℕ} {w : List ℕ} → x < m.letters → Over m.letters w → MatrixValue a m matrix (x ∷ w)
  each_element h over_nil = letter_element h
  each_element h (over_cons h' o) = letter_before h (each_element h' o)

  -- each word has the matrix of its value
  pub table_each : {w : List ℕ} {s : ℕ} → Over m.letters w → value m w ≡ element s → IsMatrix a w (matrix s)
  unfolding value
  table_each over_nil e = absurd (element_apart (sym e))
  table_each (over_cons {a = x} {w} h o) e =
      let v = each_element h o in
      subst (λ k. IsMatrix a (x ∷ w) (matrix k)) (element_same (sym v.is ∙ e)) v.is_matrix

  -- where each element's matrix is that of a word, the elements are the matrices of all non-empty words
  pub table_matrices : ((s : ℕ) → s < m.size → MatrixWord a (matrix s)) → MatricesOf a m matrix
  table_matrices words = record {
    same_letters = table.same_letters;
    some_word = words;
    each_word = λ w s o e. table_each (subst (λ k. Over k w) (sym table.same_letters) o) e;
    apart = table.apart;
  }

  -- it is, where every element is some word's value
  pub reached_word : AllReached m → (s : ℕ) → s < m.size → MatrixWord a (matrix s)
  reached_word reached s h =
      let w = reached.word_of s h in
      record {
        word = w.word;
        over = subst (λ k. Over k w.word) table.same_letters w.over;
        some = value_some m w.word s w.its_value;
        is_matrix = table_each w.over w.its_value;
      }

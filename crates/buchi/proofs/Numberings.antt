-- The rule of an automaton is known but for the numbers of its elements: two tables of the matrices of one automaton are
-- renumberings of one another, and the number of elements is that of the matrices. Assumes nothing.
use Prim.Native.Nat.{ℕ, ◌≤◌, ◌<◌}
use mathlib.Core.Path.{◌≡◌, refl, sym, subst, ◌∙◌}
use mathlib.Core.Logic.{◌↔◌}
use native.Mathlib.Omega.{arith}
use Rattle.finite.proofs.Pigeonhole.{injection_le}
use Rattle.theory.specs.Words.{Over, over_nil, over_cons}
use Rattle.theory.specs.Rules.{Morphism, Lawful, join, value}
use Rattle.theory.specs.Smallest.{Renumbered}
use Rattle.theory.proofs.Values.{value_element}
use Rattle.buchi.specs.Automata.{Automaton}
use Rattle.buchi.specs.Matrices.{Matrix, SameEntries}
use Rattle.buchi.specs.Rule.{MatrixWord, MatricesOf, MoreMatrices}
use Rattle.buchi.proofs.Products.{product_same, same_sym, same_trans, equal_numbers}
use Rattle.buchi.proofs.WordMatrices.{matrix_unique}
use Rattle.buchi.proofs.MatrixLists.{Among, number_of, number_below, number_same}
use Rattle.buchi.proofs.AutomatonRule.{value_matrix, matrix_injective, element_product}

module _ {a : Automaton} {m : Morphism} {matrix : ℕ → Matrix} (law : Lawful m) (mats : MatricesOf a m matrix) where
  -- the matrix of a word is that of an element
  pub word_among : {M : Matrix} → MatrixWord a M → Among a.states m.size matrix M
  word_among w =
      let over : Over m.letters w.word = subst (λ k. Over k w.word) (sym mats.same_letters) w.over in
      let v = value_element law over w.some in
      record { at = v.the; below = v.inside; same = matrix_unique w.is_matrix (value_matrix law mats over v.is) }

  -- the elements as so many matrices
  pub size_matrices : (n : ℕ) → n < m.size → MoreMatrices a n
  size_matrices n h = record { matrix = matrix; some_word = λ i l. mats.some_word i (omega arith); apart = λ i j li lj f. mats.apart i j (omega arith) (omega arith) f }

  -- and no more matrices than elements
  pub matrices_size : (n : ℕ) → MoreMatrices a n → n < m.size
  matrices_size n k = injection_le {f = number} (record {
    maps = λ i l. number_below (among i (omega arith));
    apart = λ i j li lj e.
        equal_numbers (k.apart i j (omega arith) (omega arith))
        (same_trans (number_same (among i (omega arith))) (subst (λ r. SameEntries a.states (matrix r) (k.matrix j)) (sym e) (same_sym (number_same (among j (omega arith))))));
  })
    where
      number : ℕ → ℕ
      number i = number_of a.states m.size matrix (k.matrix i)

      among : (i : ℕ) → i ≤ n → Among a.states m.size matrix (k.matrix i)
      among i l = word_among (k.some_word i l)

  -- "an automaton has more than 64 matrices" exactly if its rule has more than 64 elements
  pub more_matrices : (n : ℕ) → MoreMatrices a n ↔ (n < m.size)
  more_matrices n = (matrices_size n, size_matrices n)

module _ {a : Automaton} {m m' : Morphism} {matrix matrix' : ℕ → Matrix} (law : Lawful m) (mats : MatricesOf a m matrix)
    (law' : Lawful m') (mats' : MatricesOf a m' matrix') where
  -- the element of the second table with the matrix of s
  to : ℕ → ℕ
  to s = number_of a.states m'.size matrix' (matrix s)

  among : {s : ℕ} → s < m.size → Among a.states m'.size matrix' (matrix s)
  among {s} h = word_among law' mats' (mats.some_word s h)

  to_inside : {s : ℕ} → s < m.size → to s < m'.size
  unfolding to
  to_inside h = number_below (among h)

  to_same : {s : ℕ} → s < m.size → SameEntries a.states (matrix s) (matrix' (to s))
  unfolding to
  to_same h = number_same (among h)

  -- an element of the second table with the matrix of s is that element
  to_is : {s t : ℕ} → s < m.size → t < m'.size → SameEntries a.states (matrix s) (matrix' t) → to s ≡ t
  to_is hs ht e = matrix_injective law' mats' (to_inside hs) ht (same_trans (same_sym (to_same hs)) e)

  one_to_one : (s t : ℕ) → s < m.size → t < m.size → to s ≡ to t → s ≡ t
  one_to_one s t hs ht e =
      matrix_injective law mats hs ht (same_trans (to_same hs) (subst (λ r. SameEntries a.states (matrix' r) (matrix t)) (sym e) (same_sym (to_same ht))))

  onto : (t : ℕ) → t < m'.size → (s : ℕ) × (s < m.size) × (to s ≡ t)
  onto t ht =
      let k = word_among law mats (mats'.some_word t ht) in
      (k.at, k.below, to_is k.below ht (same_sym k.same))

  products : (s t : ℕ) → s < m.size → t < m.size → to (m.product s t) ≡ m'.product (to s) (to t)
  products s t hs ht =
      to_is (law.closed s t hs ht) (law'.closed (to s) (to t) (to_inside hs) (to_inside ht))
      (same_trans (same_sym (element_product law mats hs ht))
      (same_trans (product_same (to_same hs) (to_same ht)) (element_product law' mats' (to_inside hs) (to_inside ht))))

  images : (x : ℕ) → x < m'.letters → to (m.image x) ≡ m'.image x
  unfolding value join
  images x h =
      let l : x < m.letters = subst (λ k. x < k) (mats'.same_letters ∙ sym mats.same_letters) h in
      to_is (law.images x l) (law'.images x h)
      (matrix_unique (value_matrix law mats (over_cons l over_nil) refl) (value_matrix law' mats' (over_cons h over_nil) refl))

  -- one table is the other, elements renumbered
  pub matrices_renumbered : Renumbered m m'
  matrices_renumbered = record {
    same_letters = mats.same_letters ∙ sym mats'.same_letters;
    to = to;
    inside = λ s h. to_inside h;
    one_to_one = one_to_one;
    onto = onto;
    products = products;
    images = images;
  }

-- The matrices that are added are those of words: of a letter, and of a word with one letter more; and 64 of them with another one
-- are more than 64. Assumes nothing.
use Prim.Native.Nat.{ℕ, ◌≤◌, ◌<◌}
use mathlib.Core.Path.{◌≡◌, sym, subst, ◌∙◌}
use mathlib.Core.Bool.{cond}
use mathlib.Core.Logic.{◌≢◌, ◌⊎◌, inl, inr}
use mathlib.Core.List.{List, [], ◌∷◌, ◌++◌}
use native.Mathlib.Omega.{arith}
use native.Mathlib.Decide.{ℕ_discrete}
use lib.ListN.{length-append}
use lib.Dec.{eqb}
use borrow.Author.Tests.{eq-eqb, ne_eqb}
use Rattle.finite.proofs.Numbers.{le_or_lt}
use Rattle.theory.specs.Words.{over_nil, over_cons}
use Rattle.theory.proofs.Words.{over_append}
use Rattle.buchi.specs.Automata.{Automaton}
use Rattle.buchi.specs.Matrices.{Matrix, IsMatrix, SameEntries, OtherEntry, product}
use Rattle.buchi.specs.Rule.{MatrixWord}
use Rattle.buchi.proofs.Products.{product_same, same_refl}
use Rattle.buchi.proofs.WordMatrices.{letter_matrix, letter_is_matrix, matrix_same, matrix_append}
use Rattle.automaton_products.specs.Arrays.{entry_in}
use Rattle.automaton_matrices.specs.Bytes.{IsLetter}
use Rattle.automaton_matrix_search.specs.Lists.{matrix_at, StandsHere, Kept, TooRich}
use Rattle.automaton_matrix_search.specs.Steps.{AddedTo, Full, IsWord, WordList}
use Rattle.scratch.proofs.Unchanged.{unchanged_sym}
use Rattle.automaton_matrix_search.proofs.Growing.{other_sym, here_kept}

-- ---- one matrix

module _ {kinds : List ℕ} {n k : ℕ} {scratch : List ℕ} where
  -- the same entries
  pub word_same : {M N : Matrix} → SameEntries n M N → IsWord kinds n k scratch M → IsWord kinds n k scratch N
  word_same {M} {N} e w = record {
    word = λ t h.
        let v = w.word t h in
        record { word = v.word; over = v.over; some = v.some; is_matrix = matrix_same (subst (λ c. SameEntries c M N) (sym h.states) e) v.is_matrix };
  }

  -- another list
  pub word_kept : {exit : List ℕ} {M : Matrix} → Kept scratch exit → IsWord kinds n k scratch M → IsWord kinds n k exit M
  word_kept e w = record { word = λ t h. w.word t (here_kept (unchanged_sym e) h) }

  module _ {x : ℕ} {m : List (List ℕ)} (h : x < k) (l : IsLetter kinds n scratch x m) where
    -- in an automaton that stands there x is a letter, and m its matrix
    is_letter : (t : Automaton) → StandsHere t kinds n k scratch → x < t.letters
    is_letter t s = subst (λ c. x < c) (sym s.letters) h

    letter_same : (t : Automaton) → StandsHere t kinds n k scratch → SameEntries t.states (letter_matrix t x) (entry_in m)
    letter_same t s = subst (λ c. SameEntries c (letter_matrix t x) (entry_in m)) (sym s.states) (l.is_letter t s.stands s.states (is_letter t s))

    -- a letter
    pub letter_word : IsWord kinds n k scratch (entry_in m)
    letter_word = record {
      word = λ t s. record { word = x ∷ []; over = over_cons (is_letter t s) over_nil; some = omega arith; is_matrix = matrix_same (letter_same t s) (letter_is_matrix t x) };
    }

    -- a word and a letter
    pub word_letter : {M : Matrix} → IsWord kinds n k scratch M → IsWord kinds n k scratch (product n M (entry_in m))
    word_letter {M} w = record {
      word = λ t s.
          let v = w.word t s in
          record {
            word = v.word ++ (x ∷ []);
            over = over_append v.over (over_cons (is_letter t s) over_nil);
            some = omega (arith, length-append v.word (x ∷ []), v.some);
            is_matrix = subst (λ c. IsMatrix t (v.word ++ (x ∷ [])) (product c M (entry_in m))) s.states (matrix_same (product_same same_refl (letter_same t s)) (matrix_append v.is_matrix (letter_is_matrix t x)));
          };
    }

-- ---- the list

-- the first c matrices, and one more
with_last : (ℕ → Matrix) → ℕ → Matrix → ℕ → Matrix
with_last matrix c M i = cond (eqb i c) M (matrix i)

module _ (matrix : ℕ → Matrix) (c : ℕ) (M : Matrix) (i : ℕ) where
  last_same : i ≡ c → with_last matrix c M i ≡ M
  unfolding with_last
  last_same e = rw (eq-eqb i c e)

  last_other : i ≢ c → with_last matrix c M i ≡ matrix i
  unfolding with_last
  last_other f = rw (ne_eqb i c f)

module _ {kinds : List ℕ} {n k count : ℕ} {entry : List ℕ} {m : List (List ℕ)} (w : WordList kinds n k entry count) (new : IsWord kinds n k entry (entry_in m)) where
  -- a matrix more
  pub words_added : {exit : List ℕ} {number total : ℕ} → AddedTo n entry count m exit number total → WordList kinds n k exit total
  words_added {exit} {total = total} a = record { list = a.grown.list; words = λ i h. word_kept a.grown.kept (which i h (le_or_lt count i)) }
    where
      which : (i : ℕ) → i < total → (count ≤ i) ⊎ (i < count) → IsWord kinds n k entry (matrix_at exit i)
      which i h (inl l) = word_same (a.only i l h) new
      which i h (inr l) = word_same (a.grown.same i l) (w.words i l)

  -- a full list
  pub too_rich : Full n entry count m → TooRich kinds n k entry
  too_rich full = record {
    more = λ t h. record {
      matrix = all;
      some_word = λ i l. word t h i l (ℕ_discrete i count);
      apart = λ i j li lj f. subst (λ c. OtherEntry c (all i) (all j)) (sym h.states) (apart i j li lj f (ℕ_discrete i count) (ℕ_discrete j count));
    };
  }
    where
      all : ℕ → Matrix
      all = with_last (matrix_at entry) count (entry_in m)

      same : (i : ℕ) → i ≡ count → all i ≡ entry_in m
      same i e = last_same (matrix_at entry) count (entry_in m) i e

      other : (i : ℕ) → i ≢ count → all i ≡ matrix_at entry i
      other i f = last_other (matrix_at entry) count (entry_in m) i f

      size : count ≡ 64
      size = full.full

      word : (t : Automaton) → StandsHere t kinds n k entry → (i : ℕ) → i ≤ 64 → Dec (i ≡ count) → MatrixWord t (all i)
      word t h i l (yes e) = rw (same i e) (new.word t h)
      word t h i l (no f) = rw (other i f) ((w.words i (omega (arith, size))).word t h)

      apart : (i j : ℕ) → i ≤ 64 → j ≤ 64 → ¬ (i ≡ j) → Dec (i ≡ count) → Dec (j ≡ count) → OtherEntry n (all i) (all j)
      apart i j li lj f (yes e) (yes d) = absurd (f (e ∙ sym d))
      apart i j li lj f (yes e) (no d) = rw (same i e, other j d) (full.other j (omega (arith, size)))
      apart i j li lj f (no e) (yes d) = rw (other i e, same j d) (other_sym (full.other i (omega (arith, size))))
      apart i j li lj f (no e) (no d) = rw (other i e, other j d) (w.list.apart i j (omega (arith, size)) (omega (arith, size)) f)

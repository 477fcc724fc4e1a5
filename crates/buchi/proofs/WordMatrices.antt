-- The matrix of a word: the matrix of a letter, the product of the matrices of two words is that of one after the other, so the
-- product of the letters' matrices is that of the word; a word has one matrix. Assumes nothing.
use Prim.Native.Nat.{ℕ, zero, suc, ◌≤◌, ◌<◌}
use mathlib.Core.Path.{◌≡◌, refl, subst}
use mathlib.Core.Bool.{Bool, true, false, cond, ◌||◌}
use mathlib.Core.List.{List, [], ◌∷◌, ◌++◌}
use mathlib.Core.Logic.{◌⊎◌, inl, inr, ⊎_elim}
use native.Mathlib.Omega.{arith}
use lib.ListN.{length}
use lib.Dec.{T}
use Rattle.finite.proofs.Numbers.{le_or_lt}
use Rattle.finite.proofs.Tests.{T_or_left, T_or_right, T_or_cases, true_T}
use Rattle.buchi.specs.Automata.{Automaton, WordPath, path_end, path_step, FinalPath, final_here, final_later}
use Rattle.buchi.specs.Matrices.{Matrix, IsEntry, entry_final, entry_plain, entry_none, IsMatrix, SameEntries, product}
use Rattle.buchi.proofs.Paths.{path_from, path_to, final_path, path_append, final_append_first, final_append_second, path_split, final_split}
use Rattle.buchi.proofs.Products.{Via, product_intro, product_elim}

-- ---- one entry

-- an entry reaches 1 exactly if there is a path, and 2 exactly if there is one that meets a final state
pub record Levels (a : Automaton) (w : List ℕ) (p q k : ℕ) : Type 0 where
  pub bound : k ≤ 2
  pub path : 1 ≤ k → WordPath a w p q
  pub path_back : WordPath a w p q → 1 ≤ k
  pub final : 2 ≤ k → FinalPath a w p q
  pub final_back : FinalPath a w p q → 2 ≤ k

pub entry_levels : {a : Automaton} {w : List ℕ} {p q k : ℕ} → IsEntry a w p q k → Levels a w p q k
entry_levels (entry_final d) = record { bound = omega arith; path = λ h. final_path d; path_back = λ e. omega arith; final = λ h. d; final_back = λ e. omega arith }
entry_levels (entry_plain d f) = record { bound = omega arith; path = λ h. d; path_back = λ e. omega arith; final = λ h. absurd (omega arith); final_back = λ e. absurd (f e) }
entry_levels (entry_none f) = record {
  bound = omega arith;
  path = λ h. absurd (omega arith);
  path_back = λ e. absurd (f e);
  final = λ h. absurd (omega arith);
  final_back = λ e. absurd (f (final_path e));
}

pub levels_entry : {a : Automaton} {w : List ℕ} {p q : ℕ} (k : ℕ) → Levels a w p q k → IsEntry a w p q k
levels_entry zero l = entry_none (λ d. omega (arith, l.path_back d))
levels_entry (suc zero) l = entry_plain (l.path (omega arith)) (λ d. omega (arith, l.final_back d))
levels_entry (suc (suc zero)) l = entry_final (l.final (omega arith))
levels_entry (suc (suc (suc k))) l = absurd (omega (arith, l.bound))

-- there is one entry
pub entry_unique : {a : Automaton} {w : List ℕ} {p q j k : ℕ} → IsEntry a w p q j → IsEntry a w p q k → j ≡ k
entry_unique (entry_final d) (entry_final e) = refl
entry_unique (entry_final d) (entry_plain e h) = absurd (h d)
entry_unique (entry_final d) (entry_none h) = absurd (h (final_path d))
entry_unique (entry_plain d f) (entry_final e) = absurd (f e)
entry_unique (entry_plain d f) (entry_plain e h) = refl
entry_unique (entry_plain d f) (entry_none h) = absurd (h d)
entry_unique (entry_none f) (entry_final e) = absurd (f (final_path e))
entry_unique (entry_none f) (entry_plain e h) = absurd (f e)
entry_unique (entry_none f) (entry_none h) = refl

-- ---- the matrix of a word

-- what an entry says of the paths
pub matrix_levels : {a : Automaton} {w : List ℕ} {M : Matrix} → IsMatrix a w M → {p q : ℕ} → p < a.states → q < a.states → Levels a w p q (M p q)
matrix_levels m {p} {q} hp hq = entry_levels (m.entries p q hp hq)

-- a word has one matrix
pub matrix_unique : {a : Automaton} {w : List ℕ} {M N : Matrix} → IsMatrix a w M → IsMatrix a w N → SameEntries a.states M N
matrix_unique m n = record { same = λ p q hp hq. entry_unique (m.entries p q hp hq) (n.entries p q hp hq) }

-- and a matrix with the same entries is the word's matrix
pub matrix_same : {a : Automaton} {w : List ℕ} {M N : Matrix} → SameEntries a.states M N → IsMatrix a w M → IsMatrix a w N
matrix_same {a} {w} e m = record { entries = λ p q hp hq. subst (IsEntry a w p q) (e.same p q hp hq) (m.entries p q hp hq) }

-- an entry that is not 0 has a path, and one that is 2 has a path that meets a final state
pub matrix_path : {a : Automaton} {w : List ℕ} {M : Matrix} → IsMatrix a w M → {p q : ℕ} → p < a.states → q < a.states → ¬ (M p q ≡ 0) → WordPath a w p q
matrix_path {M = M} m {p} {q} hp hq h = (matrix_levels m hp hq).path (⊎_elim (λ l. l) (λ l. absurd (h (omega arith))) (le_or_lt 1 (M p q)))

pub matrix_final : {a : Automaton} {w : List ℕ} {M : Matrix} → IsMatrix a w M → {p q : ℕ} → p < a.states → q < a.states → M p q ≡ 2 → FinalPath a w p q
matrix_final m hp hq e = (matrix_levels m hp hq).final (omega arith)

-- and the other way round
pub path_matrix : {a : Automaton} {w : List ℕ} {M : Matrix} {p q : ℕ} → IsMatrix a w M → WordPath a w p q → ¬ (M p q ≡ 0)
path_matrix m d e = omega (arith, (matrix_levels m (path_from d) (path_to d)).path_back d)

pub final_matrix : {a : Automaton} {w : List ℕ} {M : Matrix} {p q : ℕ} → IsMatrix a w M → FinalPath a w p q → M p q ≡ 2
final_matrix m d =
    let l = matrix_levels m (path_from (final_path d)) (path_to (final_path d)) in
    omega (arith, l.final_back d, l.bound)

-- ---- one word after another

module _ {a : Automaton} {x y : List ℕ} {M N : Matrix} (m : IsMatrix a x M) (n : IsMatrix a y N) where
  entry_append : (p q : ℕ) → p < a.states → q < a.states → Levels a (x ++ y) p q (product a.states M N p q)
  entry_append p q hp hq = record {
    bound = ⊎_elim (λ h. h) (λ h. absurd (too_high (product_elim a.states M N p q (omega arith) h))) (le_or_lt (product a.states M N p q) 2);
    path = λ h. joined (product_elim a.states M N p q (omega arith) h);
    path_back = λ d. let k = path_split x y d in product_intro a.states M N p q (split k.first k.second (inl ((first_levels (path_to k.first)).path_back k.first)));
    final = λ h. met (product_elim a.states M N p q (omega arith) h);
    final_back = λ d.
        let k = final_split x y d in
        product_intro a.states M N p q
        (split k.first k.second
        (⊎_elim (λ e. inl ((first_levels (path_to k.first)).final_back e)) (λ e. inr ((second_levels (path_from k.second)).final_back e)) k.meets));
  }
    where
      first_levels : {r : ℕ} → r < a.states → Levels a x p r (M p r)
      first_levels hr = matrix_levels m hp hr

      second_levels : {r : ℕ} → r < a.states → Levels a y r q (N r q)
      second_levels hr = matrix_levels n hr hq

      too_high : Via a.states M N p q 3 → ⊥
      too_high k = ⊎_elim (λ h. omega (arith, (first_levels k.inside).bound)) (λ h. omega (arith, (second_levels k.inside).bound)) k.passes.either

      joined : Via a.states M N p q 1 → WordPath a (x ++ y) p q
      joined k = path_append ((first_levels k.inside).path k.passes.left) ((second_levels k.inside).path k.passes.right)

      met : Via a.states M N p q 2 → FinalPath a (x ++ y) p q
      met k =
          ⊎_elim (λ h. final_append_first ((first_levels k.inside).final h) ((second_levels k.inside).path k.passes.right))
          (λ h. final_append_second ((first_levels k.inside).path k.passes.left) ((second_levels k.inside).final h))
          k.passes.either

      split : {r g : ℕ} → WordPath a x p r → WordPath a y r q → (g ≤ M p r) ⊎ (g ≤ N r q) → Via a.states M N p q g
      split {r} d e h = record {
        r = r;
        inside = path_to d;
        passes = record { left = (first_levels (path_to d)).path_back d; right = (second_levels (path_to d)).path_back e; either = h };
      }

  -- the product of the matrices of x and y is the matrix of x ++ y
  pub matrix_append : IsMatrix a (x ++ y) (product a.states M N)
  matrix_append = record { entries = λ p q hp hq. levels_entry (product a.states M N p q) (entry_append p q hp hq) }

-- ---- the matrix of a letter, and of any word by products

-- 2 where the letter has a transition and one of its ends is final, 1 for another transition, 0 where there is none
unfoldable pub letter_matrix : Automaton → ℕ → Matrix
letter_matrix a x p q = cond (a.step p x q) (cond (a.final p || a.final q) 2 1) 0

letter_step : {a : Automaton} {x p q : ℕ} → WordPath a (x ∷ []) p q → T (a.step p x q)
letter_step (path_step h s (path_end h')) = s

letter_final : {a : Automaton} {x p q : ℕ} → FinalPath a (x ∷ []) p q → T (a.final p || a.final q)
letter_final {a} {x} {p} {q} (final_here f d) = T_or_left (a.final p) (a.final q) f
letter_final {a} {x} {p} {q} (final_later h s (final_here f (path_end h'))) = T_or_right (a.final p) (a.final q) f

pub letter_is_matrix : (a : Automaton) (x : ℕ) → IsMatrix a (x ∷ []) (letter_matrix a x)
unfolding letter_matrix
letter_is_matrix a x = record { entries = λ p q hp hq. go p q hp hq (a.step p x q) refl (a.final p || a.final q) refl }
  where
    meets : {p q : ℕ} → p < a.states → q < a.states → T (a.step p x q) → T (a.final p) ⊎ T (a.final q) → FinalPath a (x ∷ []) p q
    meets hp hq s (inl f) = final_here f (path_step hp s (path_end hq))
    meets hp hq s (inr f) = final_later hp s (final_here f (path_end hq))

    go : (p q : ℕ) → p < a.states → q < a.states → (s : Bool) → a.step p x q ≡ s → (f : Bool) → a.final p || a.final q ≡ f
        → IsEntry a (x ∷ []) p q (cond s (cond f 2 1) 0)
    go p q hp hq true e true g = entry_final (meets hp hq (true_T e) (T_or_cases (a.final p) (a.final q) (true_T g)))
    go p q hp hq true e false g = entry_plain (path_step hp (true_T e) (path_end hq)) (λ d. subst T g (letter_final d))
    go p q hp hq false e f g = entry_none (λ d. subst T e (letter_step d))

-- the product of the letters' matrices; of the empty word it means nothing
unfoldable pub matrix_of : Automaton → List ℕ → Matrix
matrix_of a [] = λ p q. 0
matrix_of a (x ∷ []) = letter_matrix a x
matrix_of a (x ∷ y ∷ w) = product a.states (letter_matrix a x) (matrix_of a (y ∷ w))

-- it is the matrix of the word
pub word_is_matrix : (a : Automaton) (w : List ℕ) → 0 < length w → IsMatrix a w (matrix_of a w)
unfolding matrix_of
word_is_matrix a [] h = absurd (omega arith)
word_is_matrix a (x ∷ []) h = letter_is_matrix a x
word_is_matrix a (x ∷ y ∷ w) h = matrix_append (letter_is_matrix a x) (word_is_matrix a (y ∷ w) (omega arith))

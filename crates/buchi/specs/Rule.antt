-- The rule of an automaton. Document 01, "Automaton to rule". Assumes nothing.
use Rattle.std.specs.Prelude.{ℕ, ◌≤◌, ◌<◌, ◌≡◌, ◌↔◌, List, length, T}
use Rattle.theory.specs.Words.{Over, Lasso}
use Rattle.theory.specs.Rules.{Morphism, Pairs, element, value}
use Rattle.theory.specs.Pairs.{Linked}
use Rattle.theory.specs.Acceptance.{Accepts}
use Rattle.buchi.specs.Automata.{Automaton, AcceptedBy}
use Rattle.buchi.specs.Matrices.{Matrix, IsMatrix, OtherEntry}

-- a non-empty word over the letters, with its matrix
pub record MatrixWord (a : Automaton) (M : Matrix) : Type 0 where
  pub word : List ℕ
  pub over : Over a.letters word
  pub some : 0 < length word
  pub is_matrix : IsMatrix a word M

-- "The elements are the matrices of all non-empty words": `matrix` gives the matrix of each element. Each is that of some
-- word, each word has the matrix of its value, and different elements have different matrices.
pub record MatricesOf (a : Automaton) (m : Morphism) (matrix : ℕ → Matrix) : Type 0 where
  pub same_letters : m.letters ≡ a.letters
  pub some_word : (s : ℕ) → s < m.size → MatrixWord a (matrix s)
  pub each_word : (w : List ℕ) (s : ℕ) → Over a.letters w → value m w ≡ element s → IsMatrix a w (matrix s)
  pub apart : (s t : ℕ) → s < m.size → t < m.size → ¬ (s ≡ t) → OtherEntry a.states (matrix s) (matrix t)

-- "for some initial p and some q entry (p, q) of R is not 0 and entry (q, q) of E is 2"
pub record Recurs (a : Automaton) (R E : Matrix) : Type 0 where
  pub p : ℕ
  pub q : ℕ
  pub p_inside : p < a.states
  pub q_inside : q < a.states
  pub p_initial : T (a.initial p)
  pub reached : ¬ (R p q ≡ 0)
  pub returns : E q q ≡ 2

-- "A linked pair (R, E) is marked if for some initial p and some q ..", and no other pair of elements is
pub record MarkedBy (a : Automaton) (m : Morphism) (matrix : ℕ → Matrix) (P : Pairs) : Type 0 where
  pub marks : (s e : ℕ) → s < m.size → e < m.size → T (P s e) ↔ (Linked m s e × Recurs a (matrix s) (matrix e))

-- "The rule accepts exactly the lassos on which some run from an initial state meets a final state again and again."
pub record AcceptsRuns (a : Automaton) (m : Morphism) (P : Pairs) : Type 0 where
  pub accepts : (u v : List ℕ) → Lasso m.letters u v → Accepts m P u v ↔ AcceptedBy a u v

-- "an automaton has more than 64 matrices", for n: n + 1 different matrices, each that of a non-empty word
pub record MoreMatrices (a : Automaton) (n : ℕ) : Type 0 where
  pub matrix : ℕ → Matrix
  pub some_word : (i : ℕ) → i ≤ n → MatrixWord a (matrix i)
  pub apart : (i j : ℕ) → i ≤ n → j ≤ n → ¬ (i ≡ j) → OtherEntry a.states (matrix i) (matrix j)

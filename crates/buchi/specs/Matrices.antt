-- The matrix of a word. Document 01, "Automaton to rule". Assumes nothing.
use Rattle.std.specs.Prelude.{ℕ, zero, suc, max, ◌<◌, ◌≡◌, List}
use Rattle.buchi.specs.Automata.{Automaton, WordPath, FinalPath}

-- "a square matrix over the states": a number for each pair of states; at other numbers it means nothing
abbrev pub Matrix : Type 0
Matrix = ℕ → ℕ → ℕ

-- "Entry (p, q) is 2 if some path from p to q meets a final state, its ends included; 1 if only other paths exist; 0 if none."
pub data IsEntry (a : Automaton) (w : List ℕ) (p q : ℕ) : ℕ → Type 0 where
  entry_final : FinalPath a w p q → IsEntry a w p q 2
  entry_plain : WordPath a w p q → ¬ FinalPath a w p q → IsEntry a w p q 1
  entry_none : ¬ WordPath a w p q → IsEntry a w p q 0

-- "a non-empty word becomes a square matrix over the states": M is the matrix of w
pub record IsMatrix (a : Automaton) (w : List ℕ) (M : Matrix) : Type 0 where
  pub entries : (p q : ℕ) → p < a.states → q < a.states → IsEntry a w p q (M p q)

-- the same entry for each pair of n states
pub record SameEntries (n : ℕ) (M N : Matrix) : Type 0 where
  pub same : (p q : ℕ) → p < n → q < n → M p q ≡ N p q

-- another entry for some pair of n states
pub record OtherEntry (n : ℕ) (M N : Matrix) : Type 0 where
  pub row : ℕ
  pub column : ℕ
  pub row_inside : row < n
  pub column_inside : column < n
  pub other : ¬ (M row column ≡ N row column)

-- the greater of two entries, 0 where one of them is 0
unfoldable pub entries_through : ℕ → ℕ → ℕ
entries_through zero y = 0
entries_through (suc x) zero = 0
entries_through (suc x) (suc y) = max (suc x) (suc y)

-- the greatest of f 0 .. f (n - 1), 0 where there is none
unfoldable pub greatest : ℕ → (ℕ → ℕ) → ℕ
greatest zero f = 0
greatest (suc n) f = max (f n) (greatest n f)

-- document 02: "A product of two matrices has at (p, q) the greatest entry among all pairs (p, r) and (r, q) with neither 0, or 0 if
-- there is no such r."
unfoldable pub product : ℕ → Matrix → Matrix → Matrix
product n M N p q = greatest n (λ r. entries_through (M p r) (N r q))

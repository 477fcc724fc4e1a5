-- The matrix of a word as the code has it: six rows of six entries, whatever the number of states. Assumes nothing.
use Rattle.std.specs.Prelude.{ℕ, ◌≤◌, ◌<◌, ◌≡◌, List, [], length, get_or}
use Rattle.buchi.specs.Matrices.{Matrix, SameEntries, entries_through, greatest, product}

-- the entries of six rows
unfoldable pub entry_in : List (List ℕ) → Matrix
entry_in m p q = get_or (get_or m p []) q 0

-- of the 36 entries none is above 2, and those of absent states are 0
pub record StateEntries (n : ℕ) (M : Matrix) : Type 0 where
  pub small : (p q : ℕ) → p < 6 → q < 6 → M p q ≤ 2
  pub no_row : (p q : ℕ) → n ≤ p → p < 6 → q < 6 → M p q ≡ 0
  pub no_column : (p q : ℕ) → n ≤ q → p < 6 → q < 6 → M p q ≡ 0

-- a matrix over n states in six rows of six entries
pub record MatrixShape (n : ℕ) (m : List (List ℕ)) : Type 0 where
  pub rows : length m ≡ 6
  pub columns : (p : ℕ) → p < 6 → length (get_or m p []) ≡ 6
  pub entries : StateEntries n (entry_in m)

-- a row with the first n entries of f and 0 behind them
pub record RowOf (f : ℕ → ℕ) (n : ℕ) (row : List ℕ) : Type 0 where
  pub six : length row ≡ 6
  pub entries : (q : ℕ) → q < n → get_or row q 0 ≡ f q
  pub zeros : (q : ℕ) → n ≤ q → get_or row q 0 ≡ 0

-- the row of a product, from that row of the left factor
unfoldable pub row_product : ℕ → List ℕ → List (List ℕ) → ℕ → ℕ
row_product n row right q = greatest n (λ r. entries_through (get_or row r 0) (entry_in right r q))

-- m is the product of two matrices over n states
pub record IsProduct (n : ℕ) (left right m : List (List ℕ)) : Type 0 where
  pub shape : MatrixShape n m
  pub same : SameEntries n (product n (entry_in left) (entry_in right)) (entry_in m)

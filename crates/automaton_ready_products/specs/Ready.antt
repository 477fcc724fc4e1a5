-- Matrices over two states by their numbers, and the table of their products. Document 02, Job 11. Assumes nothing.
use Rattle.std.specs.Prelude.{ℕ, zero, suc, ◌+◌, ◌*◌, ◌/◌, ◌%◌, ◌<◌, ◌≡◌, List, length, get_or}
use Rattle.buchi.specs.Matrices.{Matrix, SameEntries, product}
use Rattle.automaton_products.specs.Arrays.{entry_in, MatrixShape}

-- "Number the matrices 27·m00 + 9·m01 + 3·m10 + m11"
unfoldable pub matrix_number : Matrix → ℕ
matrix_number M = 27 * M 0 0 + 9 * M 0 1 + 3 * M 1 0 + M 1 1

-- the matrix of a number: its four digits to the base 3
unfoldable pub numbered : ℕ → Matrix
numbered x zero zero = x / 27 % 3
numbered x zero (suc q) = x / 9 % 3
numbered x (suc p) zero = x / 3 % 3
numbered x (suc p) (suc q) = x % 3

-- the number of the product of the matrices with two numbers
unfoldable pub product_number : ℕ → ℕ → ℕ
product_number a b = matrix_number (product 2 (numbered a) (numbered b))

-- "store the product numbers of all 81 by 81 in a constant table": by rows, that of a and b at a * 81 + b
pub record ReadyTable (table : List ℕ) : Type 0 where
  pub entries : length table ≡ 6561
  pub products : (a b : ℕ) → a < 81 → b < 81 → get_or table (a * 81 + b) 0 ≡ product_number a b

-- what is lent to a product: no byte, or that table
pub record LentTable (table : List ℕ) : Type 0 where
  pub ready : 0 < length table → ReadyTable table

-- m is the matrix with the number x, in six rows of six entries
pub record NumberedAs (x : ℕ) (m : List (List ℕ)) : Type 0 where
  pub shape : MatrixShape 2 m
  pub same : SameEntries 2 (numbered x) (entry_in m)

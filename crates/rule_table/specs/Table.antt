-- The product table and the letters' elements as they stand in a rule file. Document 01, "The rule file and the automaton
-- file". Assumes nothing.
use Rattle.std.specs.Prelude.{ℕ, ◌+◌, ◌*◌, ◌≤◌, ◌<◌, List, length}

-- where the product of two elements stands
pub record ProductNeeds (bytes : List ℕ) (n a b : ℕ) : Type 0 where
  pub small : n ≤ 64
  pub long : 1 + n * n ≤ length bytes
  pub left_inside : a < n
  pub right_inside : b < n

-- where the element of a letter stands
pub record ImageNeeds (bytes : List ℕ) (n a : ℕ) : Type 0 where
  pub small : n ≤ 64
  pub long : 2 + n * n + a < length bytes

-- The table of the pairs of a list. Assumes nothing.
use Rattle.std.specs.Prelude.{ℕ, ◌+◌, ◌<◌, ◌≡◌, List}
use Rattle.theory.specs.Rules.{Morphism}
use Rattle.formats.specs.Table.{product_at, image_at}
use Rattle.pair_list.specs.Pairs.{left_at, right_at, number_at}

-- element i is pair i of the list; the number of a pair is one more than its place
pub record PairTable (first : List ℕ) (n₁ : ℕ) (second : List ℕ) (n₂ k : ℕ) (scratch : List ℕ) (count : ℕ) (m : Morphism) : Type 0 where
  pub same_size : m.size ≡ count
  pub same_letters : m.letters ≡ k
  pub products : (i j : ℕ) → i < count → j < count
      → number_at scratch (product_at first n₁ (left_at scratch i) (left_at scratch j)) (product_at second n₂ (right_at scratch i) (right_at scratch j)) ≡ m.product i j + 1
  pub images : (x : ℕ) → x < k → number_at scratch (image_at first n₁ x) (image_at second n₂ x) ≡ m.image x + 1

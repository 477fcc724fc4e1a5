-- The rule of the pairs of values of two rules as it is laid out in scratch before it is written. Assumes nothing.
--
--    4096  the closure of the second rule's marks, and from 61440 that of the first's; read only here
--    8192  the numbers of the pairs, and from 12288 and 12352 the halves of each pair of the list; read only here
--   16384  the products of the pairs, a byte for each two places (i, j), at i·count + j
--   20480  the pair of each letter
--   24576  the marks, a byte for each two places (i, j), at i·64 + j; they end at 28672
use Rattle.std.specs.Prelude.{ℕ, ◌≤◌, ◌<◌, List, length}
use Rattle.formats.specs.Table.{product_at, image_at}
use Rattle.formats.specs.RuleChecks.{scratch_size}
use Rattle.pair_list.specs.Pairs.{left_at, right_at, number_at}

-- the number of the product of two pairs of the list, half by half: one more than its place
unfoldable pub pair_product : List ℕ → ℕ → List ℕ → ℕ → List ℕ → ℕ → ℕ → ℕ
pair_product first n₁ second n₂ scratch i j =
    number_at scratch (product_at first n₁ (left_at scratch i) (left_at scratch j)) (product_at second n₂ (right_at scratch i) (right_at scratch j))

-- that of a letter's pair
unfoldable pub pair_image : List ℕ → ℕ → List ℕ → ℕ → List ℕ → ℕ → ℕ
pair_image first n₁ second n₂ scratch x = number_at scratch (image_at first n₁ x) (image_at second n₂ x)

-- scratch has its size, and the pair (s, t) has a number
pub record NumberNeeds (scratch : List ℕ) (s t : ℕ) : Type 0 where
  pub left_small : s < 64
  pub right_small : t < 64
  pub some : 1 ≤ number_at scratch s t
  pub room : scratch_size ≤ length scratch

-- scratch has its size, and the halves of count pairs are elements
pub record HalvesNeeds (n₁ n₂ count : ℕ) (scratch : List ℕ) : Type 0 where
  pub few : count ≤ 64
  pub lefts : (i : ℕ) → i < count → left_at scratch i < n₁
  pub rights : (i : ℕ) → i < count → right_at scratch i < n₂
  pub room : scratch_size ≤ length scratch

-- and the pairs of products and letters have numbers
pub record PairsNeeds (first : List ℕ) (n₁ : ℕ) (second : List ℕ) (n₂ k count : ℕ) (scratch : List ℕ) : Type 0 where
  pub halves : HalvesNeeds n₁ n₂ count scratch
  pub products : (i j : ℕ) → i < count → j < count → 1 ≤ pair_product first n₁ second n₂ scratch i j
  pub images : (x : ℕ) → x < k → 1 ≤ pair_image first n₁ second n₂ scratch x

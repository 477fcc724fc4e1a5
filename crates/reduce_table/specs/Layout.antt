-- The rule of the blocks as it is laid out in scratch before it is written. Assumes nothing.
--
--    8192  the outcomes of the rule's elements, as the rounds leave them; read only here
--   12416  the number of each element's block, and from 12480 the leader of each block; read only here
--   16384  the products of the c blocks, a byte for each pair (i, j), at i·c + j
--   20480  the block of each letter
--   24576  the marks, a byte for each pair (i, j), at i·64 + j; they end at 28672
use Rattle.std.specs.Prelude.{ℕ, ◌+◌, ◌*◌, ◌≤◌, ◌<◌, ◌≡◌, cond, ◌&&◌, List, length, get_or, eqb}
use Rattle.formats.specs.Table.{product_at, image_at}
use Rattle.reduce_first_round.specs.Map.{outcome_at}
use Rattle.scratch.specs.Rows.{RowFilled, RowsFilled}
use Rattle.reduce_numbering.specs.Steps.{number_at, leader_at}
use Rattle.scratch.specs.Map.{laid_products_base}
use Rattle.formats.specs.RuleChecks.{scratch_size}

-- scratch has its size, and the leaders of c blocks are elements
pub record BlocksNeeds (n c : ℕ) (scratch : List ℕ) : Type 0 where
  pub small : c ≤ 64
  pub leaders : (j : ℕ) → j < c → leader_at scratch j < n
  pub room : scratch_size ≤ length scratch

-- the product of two blocks is the block of their leaders' product
unfoldable pub block_product : List ℕ → ℕ → List ℕ → ℕ → ℕ → ℕ
block_product bytes n scratch i j = number_at scratch (product_at bytes n (leader_at scratch i) (leader_at scratch j))

-- the block of a letter's element
unfoldable pub block_image : List ℕ → ℕ → List ℕ → ℕ → ℕ
block_image bytes n scratch a = number_at scratch (image_at bytes n a)

-- the product of two blocks as it is laid out
unfoldable pub laid_product : ℕ → List ℕ → ℕ → ℕ → ℕ
laid_product c scratch i j = get_or scratch (laid_products_base + (i * c + j)) 0

-- the outcome of two blocks is that of their leaders
unfoldable pub block_outcome : List ℕ → ℕ → ℕ → ℕ
block_outcome scratch i j = outcome_at scratch (leader_at scratch i) (leader_at scratch j)

-- the outcome of the pair of blocks where it is linked, else 0
unfoldable pub block_mark : ℕ → List ℕ → ℕ → ℕ → ℕ
block_mark c scratch i j =
    let stays = eqb (laid_product c scratch i j) i in
    let outcome = block_outcome scratch i j in
    cond (eqb (laid_product c scratch j j) j && stays) outcome 0

-- the bytes from a base on are the values of f, and every other byte is as it was
abbrev pub Filled : (ℕ → ℕ) → ℕ → ℕ → List ℕ → List ℕ → Type 0
Filled f base count entry exit = RowFilled (λ j byte. byte ≡ f j) base count entry exit

-- rows of values of f, each as many bytes after the one before it as the stride says, and every byte outside them is as it was
abbrev pub Grid : (ℕ → ℕ → ℕ) → ℕ → ℕ → ℕ → ℕ → List ℕ → List ℕ → Type 0
Grid f base stride width rows entry exit = RowsFilled (λ i j byte. byte ≡ f i j) base stride width rows entry exit

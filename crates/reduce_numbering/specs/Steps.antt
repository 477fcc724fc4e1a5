-- The numbers of the blocks while they are given out: where they stand in scratch, and what is known once some entries of the
-- worklist of words were gone through. Assumes nothing.
--
--   12288  the blocks, a byte for each element: the least element of its block; read only here
--   12416  the number of each element's block, a byte for each element
--   12480  the leader of each block, its element with the first word, a byte for each block; they end at 12544
use Rattle.std.specs.Prelude.{ℕ, ◌+◌, ◌≤◌, ◌<◌, ◌≡◌, List, length, get_or, set}
use Rattle.rule_reach.specs.Reach.{place_at, Places}
use Rattle.scratch.specs.Bytes.{UnchangedOutside}
use Rattle.scratch.specs.Map.{blocks_base, leaders_base, leaders_end, numbers_base}

-- the byte of the block of s
abbrev pub block_at : List ℕ → ℕ → ℕ
block_at scratch s = get_or scratch (blocks_base + s) 0

-- the number of the block of s
abbrev pub number_at : List ℕ → ℕ → ℕ
number_at scratch s = get_or scratch (numbers_base + s) 0

-- the leader of block j
abbrev pub leader_at : List ℕ → ℕ → ℕ
leader_at scratch j = get_or scratch (leaders_base + j) 0

-- r is the first of c blocks whose leader is in one block with s, or c where there is none
pub record Sought (scratch : List ℕ) (c s r : ℕ) : Type 0 where
  pub at_most : r ≤ c
  pub found : r < c → block_at scratch (leader_at scratch r) ≡ block_at scratch s
  pub first : (j : ℕ) → j < r → block_at scratch (leader_at scratch j) ≡ block_at scratch s → ⊥

-- s has its number: that of a block that had one, or the next, and then s is the leader
pub data Taken (entry exit : List ℕ) (c s : ℕ) : ℕ → Type 0 where
  taken_old : (j : ℕ) → j < c → Sought entry c s j → exit ≡ set entry (numbers_base + s) j → Taken entry exit c s c
  taken_new : Sought entry c s c → exit ≡ set (set entry (numbers_base + s) c) (leaders_base + c) s → Taken entry exit c s (c + 1)

-- the entries of a worklist: elements, each once
pub record Entries (queue : List ℕ) (n count : ℕ) : Type 0 where
  pub small : n ≤ 64
  pub few : count ≤ n
  pub long : 256 ≤ length queue
  pub inside : (i : ℕ) → i < count → get_or queue i 0 < n
  pub places : Places queue n count

-- the first i entries were gone through, and c blocks have a number
pub record Numbered (queue : List ℕ) (n i c : ℕ) (entry exit : List ℕ) : Type 0 where
  pub few : c ≤ i
  pub some : 0 < i → 0 < c
  -- the leaders are elements that were gone through, in their order, one from each block
  pub leader_inside : (j : ℕ) → j < c → leader_at exit j < n
  pub leader_passed : (j : ℕ) → j < c → place_at queue (leader_at exit j) ≤ i
  pub leader_number : (j : ℕ) → j < c → number_at exit (leader_at exit j) ≡ j
  pub increasing : (j l : ℕ) → j < l → l < c → place_at queue (leader_at exit j) < place_at queue (leader_at exit l)
  pub apart : (j l : ℕ) → j < l → l < c → block_at entry (leader_at exit j) ≡ block_at entry (leader_at exit l) → ⊥
  -- each element that was gone through has the number of its block, whose leader stands no later
  pub number_below : (t : ℕ) → t < i → number_at exit (get_or queue t 0) < c
  pub number_block : (t : ℕ) → t < i → block_at entry (leader_at exit (number_at exit (get_or queue t 0))) ≡ block_at entry (get_or queue t 0)
  pub number_first : (t : ℕ) → t < i → place_at queue (leader_at exit (number_at exit (get_or queue t 0))) ≤ t + 1
  pub kept : UnchangedOutside numbers_base leaders_end entry exit

-- What one step of the search of words does to the worklist: the element after an entry and a letter, and the four bytes
-- that a new element's entry takes. Assumes nothing.
use Rattle.std.specs.Prelude.{ℕ, zero, suc, ◌+◌, ◌*◌, ◌≤◌, ◌<◌, ◌≡◌, List, length, get_or}
use Rattle.formats.specs.Table.{product_at, image_at}
use Rattle.rule_reach.specs.Reach.{place_at}

-- the element after an entry and a letter: the letter's own after the empty word, else the entry's element times it
unfoldable pub step_at : List ℕ → ℕ → List ℕ → ℕ → ℕ → ℕ
step_at bytes n queue zero a = image_at bytes n a
step_at bytes n queue (suc i) a = product_at bytes n (get_or queue i 0) (image_at bytes n a)

-- the table and the letter's element are there, and the entry holds an element
pub record StepNeeds (bytes : List ℕ) (n : ℕ) (queue : List ℕ) (from letter : ℕ) : Type 0 where
  pub small : n ≤ 64
  pub long : 2 + n * n + letter < length bytes
  pub image_inside : image_at bytes n letter < n
  pub entry_there : from ≤ length queue
  pub entry_inside : (i : ℕ) → from ≡ i + 1 → get_or queue i 0 < n

-- room for one entry more unless the element has one, and every number to store fits a byte
pub record AddNeeds (queue : List ℕ) (count s from letter : ℕ) : Type 0 where
  pub room : 256 ≤ length queue
  pub element_small : s < 64
  pub from_small : from < 256
  pub letter_small : letter < 256
  pub count_small : place_at queue s ≡ 0 → count < 64

-- entry count + 1 was written: its element, the entry before it, its letter, and the element's number; no other byte changed
pub record Stored (entry exit : List ℕ) (count s from letter : ℕ) : Type 0 where
  pub the_element : get_or exit count 0 ≡ s
  pub the_parent : get_or exit (64 + count) 0 ≡ from
  pub the_letter : get_or exit (128 + count) 0 ≡ letter
  pub the_place : get_or exit (192 + s) 0 ≡ count + 1
  pub other : (i : ℕ) → (i ≡ count → ⊥) → (i ≡ 64 + count → ⊥) → (i ≡ 128 + count → ⊥) → (i ≡ 192 + s → ⊥)
      → get_or exit i 0 ≡ get_or entry i 0
  pub same_length : length exit ≡ length entry

-- the element was there and nothing changed, or it was not and has an entry now
pub data Added (entry exit : List ℕ) (count s from letter r : ℕ) : Type 0 where
  added_old : 0 < place_at entry s → exit ≡ entry → r ≡ count → Added entry exit count s from letter r
  added_new : place_at entry s ≡ 0 → Stored entry exit count s from letter → r ≡ count + 1 → Added entry exit count s from letter r

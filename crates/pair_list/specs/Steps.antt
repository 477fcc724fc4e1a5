-- What one step of the search does to the list: the five bytes that a new pair's entry takes. Assumes nothing.
use Rattle.std.specs.Prelude.{ℕ, ◌+◌, ◌*◌, ◌≤◌, ◌<◌, ◌≡◌, ◌≢◌, List, length, get_or, Option, Some, None}
use Rattle.formats.specs.RuleChecks.{scratch_size}
use Rattle.scratch.specs.Map.{pair_numbers_base, pair_lefts_base, pair_rights_base, pair_parents_base, pair_letters_base}
use Rattle.pair_list.specs.Pairs.{left_at, right_at, number_at, Kept}

-- the list is there, and every number to store fits a byte
pub record AddNeeds (scratch : List ℕ) (count s t from letter : ℕ) : Type 0 where
  pub room : scratch_size ≤ length scratch
  pub few : count ≤ 64
  pub left_small : s < 64
  pub right_small : t < 64
  pub from_small : from < 256
  pub letter_small : letter < 256

-- pair `count` was written: its halves, the entry before it, its letter, and the pair's number; no other byte changed
pub record Stored (entry exit : List ℕ) (count s t from letter : ℕ) : Type 0 where
  pub the_left : left_at exit count ≡ s
  pub the_right : right_at exit count ≡ t
  pub the_parent : get_or exit (pair_parents_base + count) 0 ≡ from
  pub the_letter : get_or exit (pair_letters_base + count) 0 ≡ letter
  pub the_number : get_or exit (pair_numbers_base + (s * 64 + t)) 0 ≡ count + 1
  pub other : (i : ℕ) → i ≢ pair_lefts_base + count → i ≢ pair_rights_base + count → i ≢ pair_parents_base + count → i ≢ pair_letters_base + count
      → i ≢ pair_numbers_base + (s * 64 + t) → get_or exit i 0 ≡ get_or entry i 0
  pub same_length : length exit ≡ length entry

-- the pair was there and nothing changed, or it was not and has an entry now
pub data Placed (entry exit : List ℕ) (count s t from letter total : ℕ) : Type 0 where
  placed_old : 0 < number_at entry s t → exit ≡ entry → total ≡ count → Placed entry exit count s t from letter total
  placed_new : number_at entry s t ≡ 0 → count < 64 → Stored entry exit count s t from letter → total ≡ count + 1 → Placed entry exit count s t from letter total

-- there are 64 pairs, and this is none of them
pub record Full (scratch : List ℕ) (count s t : ℕ) : Type 0 where
  pub full : count ≡ 64
  pub new : number_at scratch s t ≡ 0

-- the pair was added or is there, or there is no place for it
abbrev pub AddAnswer : List ℕ → List ℕ → ℕ → ℕ → ℕ → ℕ → ℕ → Option ℕ → Type 0
AddAnswer entry exit count s t from letter (Some total) = Placed entry exit count s t from letter total
AddAnswer entry exit count s t from letter None = Full entry count s t

-- the answer, and the bytes outside the list
pub record Added (entry exit : List ℕ) (count s t from letter : ℕ) (answer : Option ℕ) : Type 0 where
  pub kept : Kept entry exit
  pub says : AddAnswer entry exit count s t from letter answer

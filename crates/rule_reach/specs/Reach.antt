-- The worklist of elements as it stands in lent bytes, and what the search of words leaves there. Assumes nothing.
use Rattle.std.specs.Prelude.{ℕ, zero, suc, ◌+◌, ◌≤◌, ◌<◌, ◌≡◌, List, length, get_or, Option, Some, None}
use Rattle.finite.proofs.FirstWords.{FirstOrder}
use Rattle.theory.specs.Rules.{Morphism, Value, none, element, join}
use Rattle.formats.specs.Table.{morphism_at}

-- entry 0 is the empty word; entry i + 1 has its element at byte i
unfoldable pub entry_at : List ℕ → ℕ → Value
entry_at queue zero = none
entry_at queue (suc i) = element (get_or queue i 0)

-- the entry that entry i + 1 was found from stands at byte 64 + i
unfoldable pub parent_at : List ℕ → ℕ → ℕ
parent_at queue zero = 0
parent_at queue (suc i) = get_or queue (64 + i) 0

-- and the letter at byte 128 + i
unfoldable pub letter_at : List ℕ → ℕ → ℕ
letter_at queue zero = 0
letter_at queue (suc i) = get_or queue (128 + i) 0

-- the number of the entry of element s, 0 where it has none, stands at byte 192 + s
unfoldable pub place_at : List ℕ → ℕ → ℕ
place_at queue s = get_or queue (192 + s) 0

-- a word with one letter more
unfoldable pub word_step : Morphism → ℕ → Value → Value
word_step m a x = join m x (element (m.image a))

-- the numbers at 192 + s name the entries of the elements
pub record Places (queue : List ℕ) (n count : ℕ) : Type 0 where
  pub of_entry : (i : ℕ) → i < count → place_at queue (get_or queue i 0) ≡ i + 1
  pub of_element : (s : ℕ) → s < n → 0 < place_at queue s → (place_at queue s ≤ count) × (entry_at queue (place_at queue s) ≡ element s)

-- a worklist with nothing found yet: room, and no element has a number
pub record Empty (queue : List ℕ) : Type 0 where
  pub room : 256 ≤ length queue
  pub none_found : (s : ℕ) → s < 64 → place_at queue s ≡ 0

-- what the search leaves: the values of all words, in the order of their first words
pub record WordOrder (bytes : List ℕ) (n k : ℕ) (entry exit : List ℕ) (count : ℕ) : Type 0 where
  pub order : FirstOrder none (word_step (morphism_at bytes n k)) k (entry_at exit) (suc count) (parent_at exit) (letter_at exit)
  pub few : count ≤ n
  pub inside : (i : ℕ) → i < count → get_or exit i 0 < n
  pub places : Places exit n count
  pub same_length : length exit ≡ length entry
  pub kept : (i : ℕ) → 256 ≤ i → get_or exit i 0 ≡ get_or entry i 0

-- the least element below n with no number
pub record FirstWithout (queue : List ℕ) (n s : ℕ) : Type 0 where
  pub below : s < n
  pub without : place_at queue s ≡ 0
  pub first : (t : ℕ) → t < s → 0 < place_at queue t

pub record NoneWithout (queue : List ℕ) (n : ℕ) : Type 0 where
  pub have : (s : ℕ) → s < n → 0 < place_at queue s

abbrev pub WithoutAnswer : List ℕ → ℕ → Option ℕ → Type 0
WithoutAnswer queue n (Some s) = FirstWithout queue n s
WithoutAnswer queue n None = NoneWithout queue n

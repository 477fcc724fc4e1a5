-- The checks 1 to 3 of one section: "count present, count in range, bytes present, entries in file order". Assumes nothing.
use Rattle.std.specs.Prelude.{ℕ, ◌+◌, ◌*◌, ◌≤◌, ◌<◌, ◌≡◌, ◌⊎◌, List, [], ◌∷◌, ◌++◌, length, get_or}
use Rattle.answer.specs.declared.Refusal.TheVariants.{Truncated, CountOutOfRange, EntryOutOfRange}
use Rattle.answer.specs.Checks.{Check}

-- "a two-byte number has its low byte first": the one at byte i
unfoldable pub two_bytes : List ℕ → ℕ → ℕ
two_bytes bytes i = get_or bytes i 0 + 256 * get_or bytes (i + 1) 0

-- how wide a count is
pub data CountWidth : Type 0 where
  one_byte two-byte : CountWidth

abbrev pub count_bytes : CountWidth → ℕ
count_bytes one_byte = 1
count_bytes two-byte = 2

-- the count at the front of the bytes
abbrev pub count_at : CountWidth → List ℕ → ℕ
count_at one_byte bytes = get_or bytes 0 0
count_at two-byte bytes = two_bytes bytes 0

-- a kind of section: its count's width and range, how many bytes follow a count, and the range of each of them by its index: from
-- a floor on, below a bound
pub record Section : Type 0 where
  pub width : CountWidth
  pub low : ℕ
  pub high : ℕ
  pub entries : ℕ → ℕ
  pub floor : ℕ → ℕ → ℕ
  pub bound : ℕ → ℕ → ℕ

-- a byte in its range
pub record InRange (floor bound byte : ℕ) : Type 0 where
  pub above : floor ≤ byte
  pub below : byte < bound

-- 1 "bytes end inside a count or section": fewer than are needed; place "length of the input"
pub record TruncatedAt (needed at : ℕ) (rest : List ℕ) (place : ℕ) : Type 0 where
  pub short : length rest < needed
  pub is_place : place ≡ at + length rest

-- 2 "a count lies outside its range"; place "its first byte"
pub record CountOutAt (count low high at place : ℕ) : Type 0 where
  pub outside : (count < low) ⊎ (high < count)
  pub is_place : place ≡ at

-- 3 "an entry names no element, state, letter or state kind", and "a grade byte .. outside 1 to 3 is refused by 3" (document 02,
-- Job 12): the first such of `size` entries from byte `from` on; place "its byte"
pub record EntryOutAt (rest : List ℕ) (from size : ℕ) (floor bound : ℕ → ℕ) (at place : ℕ) : Type 0 where
  pub index : ℕ
  pub below : index < size
  pub outside : (get_or rest (from + index) 0 < floor index) ⊎ (bound index ≤ get_or rest (from + index) 0)
  pub first : (i : ℕ) → i < index → InRange (floor i) (bound i) (get_or rest (from + i) 0)
  pub is_place : place ≡ at + (from + index)

-- "count present, count in range"; `rest` is what stands from byte `at` of the input on
abbrev pub count_checks : CountWidth → ℕ → ℕ → ℕ → ℕ → List ℕ → List Check
count_checks width low high input at rest =
    record { refusal = Truncated; input = input; Fails = TruncatedAt (count_bytes width) at rest }
    ∷ record { refusal = CountOutOfRange; input = input; Fails = CountOutAt (count_at width rest) low high at }
    ∷ []

-- "bytes present, entries in file order"
abbrev pub entry_checks : ℕ → ℕ → (ℕ → ℕ) → (ℕ → ℕ) → ℕ → ℕ → List ℕ → List Check
entry_checks from size floor bound input at rest =
    record { refusal = Truncated; input = input; Fails = TruncatedAt (from + size) at rest }
    ∷ record { refusal = EntryOutOfRange; input = input; Fails = EntryOutAt rest from size floor bound at }
    ∷ []

-- the section that begins at byte `at` of an input
unfoldable pub section_checks : Section → ℕ → ℕ → List ℕ → List Check
section_checks section input at rest =
    count_checks section.width section.low section.high input at rest
    ++ entry_checks (count_bytes section.width) (section.entries (count_at section.width rest))
    (section.floor (count_at section.width rest)) (section.bound (count_at section.width rest)) input at rest

-- The worklist of the search as it stands in scratch (the map is in scratch/specs/Map). An entry is a state: the numbers of the
-- value in front and of the value behind, an element's its own and n for none. Assumes nothing.
use Rattle.std.specs.Prelude.{ℕ, ◌+◌, ◌*◌, ◌≤◌, ◌<◌, ◌≡◌, List, length, get_or}
use Rattle.finite.proofs.Worklist.{Entry}
use Rattle.scratch.specs.Bytes.{UnchangedOutside}
use Rattle.scratch.specs.Map.{backs_base, first_preimages_base, fronts_base, letters_base, parents_high_base, parents_low_base, states_base, tables_end}
use Rattle.formats.specs.RuleChecks.{scratch_size}

-- the value in front of an entry
unfoldable pub front_at : List ℕ → ℕ → ℕ
front_at scratch i = get_or scratch (fronts_base + i) 0

-- and the one behind
unfoldable pub back_at : List ℕ → ℕ → ℕ
back_at scratch i = get_or scratch (backs_base + i) 0

-- the letter that the entry was found by
unfoldable pub letter_at : List ℕ → ℕ → ℕ
letter_at scratch i = get_or scratch (letters_base + i) 0

-- the entry that it was found from
unfoldable pub parent_at : List ℕ → ℕ → ℕ
parent_at scratch i = get_or scratch (parents_low_base + i) 0 + 256 * get_or scratch (parents_high_base + i) 0

-- the number of a state
unfoldable pub state_code : ℕ → ℕ → ℕ
state_code x y = x * 65 + y

unfoldable pub code_at : List ℕ → ℕ → ℕ
code_at scratch i = state_code (front_at scratch i) (back_at scratch i)

-- one more than the start value for which the state with this number was last found
unfoldable pub seen_at : List ℕ → ℕ → ℕ
seen_at scratch c = get_or scratch (states_base + c) 0

-- count different states, found for the start value s; a state is one of them exactly if its byte says so
pub record Queue (n s : ℕ) (scratch : List ℕ) (count : ℕ) : Type 0 where
  pub small : n ≤ 64
  pub start_inside : s < n
  pub room : scratch_size ≤ length scratch
  pub front_inside : (i : ℕ) → i < count → front_at scratch i ≤ n
  pub back_inside : (i : ℕ) → i < count → back_at scratch i ≤ n
  pub apart : (i j : ℕ) → i < j → j < count → code_at scratch i ≡ code_at scratch j → ⊥
  pub seen : (i : ℕ) → i < count → seen_at scratch (code_at scratch i) ≡ s + 1
  pub found : (c : ℕ) → c < 4225 → seen_at scratch c ≡ s + 1 → Entry (code_at scratch) count c
  pub older : (c : ℕ) → c < 4225 → seen_at scratch c ≤ s + 1

-- the state (x, y) is an entry
pub record HasState (scratch : List ℕ) (count x y : ℕ) : Type 0 where
  pub at : ℕ
  pub below : at < count
  pub front : front_at scratch at ≡ x
  pub back : back_at scratch at ≡ y

-- only the worklist and the bytes of the states may differ
abbrev pub Kept : List ℕ → List ℕ → Type 0
Kept entry exit = UnchangedOutside tables_end first_preimages_base entry exit

-- an entry is as it was
pub record SameEntry (entry exit : List ℕ) (i : ℕ) : Type 0 where
  pub front : front_at exit i ≡ front_at entry i
  pub back : back_at exit i ≡ back_at entry i
  pub letter : letter_at exit i ≡ letter_at entry i
  pub parent : parent_at exit i ≡ parent_at entry i

-- entries were added behind the first count
pub record Grown (n s : ℕ) (entry : List ℕ) (count : ℕ) (exit : List ℕ) (total : ℕ) : Type 0 where
  pub queue : Queue n s exit total
  pub more : count ≤ total
  pub same : (i : ℕ) → i < count → SameEntry entry exit i
  pub kept : Kept entry exit

-- What it does to the worklist to store an entry and to add a state. Assumes nothing.
use Rattle.std.specs.Prelude.{ℕ, ◌+◌, ◌≤◌, ◌<◌, ◌≡◌, List, length, get_or}
use Rattle.mark_search_list.specs.Queue.{front_at, back_at, letter_at, parent_at, Queue, HasState, SameEntry, Grown}
use Rattle.scratch.specs.Map.{backs_base, fronts_base, letters_base, parents_high_base, parents_low_base}
use Rattle.formats.specs.RuleChecks.{scratch_size}

-- room for one entry more, and every number to store fits its bytes
pub record StoreNeeds (scratch : List ℕ) (count x y from letter : ℕ) : Type 0 where
  pub room : scratch_size ≤ length scratch
  pub few : count < 4225
  pub front_small : x ≤ 64
  pub back_small : y ≤ 64
  pub from_small : from < 4225
  pub letter_small : letter < 16

-- the entry was written, and no other byte changed
pub record Stored (entry exit : List ℕ) (count x y from letter : ℕ) : Type 0 where
  pub same_length : length exit ≡ length entry
  pub the_front : front_at exit count ≡ x
  pub the_back : back_at exit count ≡ y
  pub the_letter : letter_at exit count ≡ letter
  pub the_parent : parent_at exit count ≡ from
  pub others : (i : ℕ) → i < 4225 → (i ≡ count → ⊥) → SameEntry entry exit i
  pub outside : (i : ℕ) → (i ≡ fronts_base + count → ⊥) → (i ≡ backs_base + count → ⊥) → (i ≡ letters_base + count → ⊥) → (i ≡ parents_low_base + count → ⊥)
      → (i ≡ parents_high_base + count → ⊥) → get_or exit i 0 ≡ get_or entry i 0

-- a state of n elements that may be added
pub record AddNeeds (n s : ℕ) (scratch : List ℕ) (count x y from letter : ℕ) : Type 0 where
  pub queue : Queue n s scratch count
  pub front_inside : x ≤ n
  pub back_inside : y ≤ n
  pub from_small : from < 4225
  pub letter_small : letter < 16

-- every entry from the first count on is the state (x, y), found from an entry by a letter
pub record OnlyState (scratch : List ℕ) (count total x y from letter : ℕ) : Type 0 where
  pub the_front : (j : ℕ) → count ≤ j → j < total → front_at scratch j ≡ x
  pub the_back : (j : ℕ) → count ≤ j → j < total → back_at scratch j ≡ y
  pub the_parent : (j : ℕ) → count ≤ j → j < total → parent_at scratch j ≡ from
  pub the_letter : (j : ℕ) → count ≤ j → j < total → letter_at scratch j ≡ letter

-- the state is an entry now, and no other was added
pub record Added (n s : ℕ) (entry : List ℕ) (count x y from letter : ℕ) (exit : List ℕ) (total : ℕ) : Type 0 where
  pub grown : Grown n s entry count exit total
  pub holds : HasState exit total x y
  pub only : OnlyState exit count total x y from letter

-- The cycle that an entry of the search spells: its letter, then those of the entry that it was found from, back to a start,
-- which has nothing behind. Assumes nothing.
use Rattle.std.specs.Prelude.{ℕ, ◌≤◌, ◌<◌, ◌≡◌, List, [], ◌∷◌, length}
use Rattle.formats.specs.Front.{AtFront}
use Rattle.mark_search_list.specs.Queue.{back_at, letter_at, parent_at}
use Rattle.formats.specs.RuleChecks.{scratch_size}

-- the letters from entry i back to a start
pub data Spells (n : ℕ) (scratch : List ℕ) : ℕ → List ℕ → Type 0 where
  spells_none : {i : ℕ} → back_at scratch i ≡ n → Spells n scratch i []
  spells_more : {i : ℕ} {w : List ℕ} → (back_at scratch i ≡ n → ⊥) → Spells n scratch (parent_at scratch i) w → Spells n scratch i (letter_at scratch i ∷ w)

-- an entry whose parents come before it, and room for its cycle
pub record CycleNeeds (n : ℕ) (scratch : List ℕ) (i : ℕ) (out : List ℕ) : Type 0 where
  pub room : scratch_size ≤ length scratch
  pub few : i < 4225
  pub parents : (j : ℕ) → j ≤ i → (back_at scratch j ≡ n → ⊥) → parent_at scratch j < j
  pub long : 4224 ≤ length out

-- its cycle stands at the front of the buffer, and has no more letters than there are entries before it
pub record CycleWritten (n : ℕ) (scratch : List ℕ) (i : ℕ) (entry exit : List ℕ) (r : ℕ) : Type 0 where
  pub word : List ℕ
  pub spells : Spells n scratch i word
  pub short : length word ≤ i
  pub written : AtFront word entry exit r

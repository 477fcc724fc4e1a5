-- Where the first word of an element is read, and what it is to have a word written. Assumes nothing.
use Rattle.std.specs.Prelude.{ℕ, ◌≤◌, ◌<◌, List, length}
use Rattle.rule_reach.specs.Reach.{place_at, WordOrder}

-- the worklist that a search of the words of some table with n elements left
pub record WordsFound (queue : List ℕ) (n : ℕ) : Type 0 where
  pub bytes : List ℕ
  pub letters : ℕ
  pub before : List ℕ
  pub count : ℕ
  pub order : WordOrder bytes n letters before queue count
  pub small : n ≤ 64
  pub room : 256 ≤ length queue

-- an entry of such a worklist
pub record EntryNeeds (queue : List ℕ) (at : ℕ) : Type 0 where
  pub size : ℕ
  pub words : WordsFound queue size
  pub within : at ≤ words.count

-- an element that was found, and room for its word: no first word has more letters than there are elements
pub record SpellNeeds (queue : List ℕ) (n s : ℕ) (out : List ℕ) : Type 0 where
  pub words : WordsFound queue n
  pub inside : s < n
  pub found : 0 < place_at queue s
  pub long : n ≤ length out

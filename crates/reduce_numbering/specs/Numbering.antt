-- What the numbering of the blocks leaves: numbers from 0 up without a gap, in the order of the blocks' first words. Assumes
-- nothing.
use Rattle.std.specs.Prelude.{ℕ, ◌≤◌, ◌<◌, ◌≡◌, List}
use Rattle.finite.specs.Shortlex.{Before, NotAfter}
use Rattle.theory.specs.Words.{Over}
use Rattle.theory.specs.Rules.{Morphism, element, value}
use Rattle.theory.specs.Rounds.{Together, Stable}
use Rattle.minimality.proofs.Quotient.{Numbering}
use Rattle.reduce_first_round.specs.Map.{BlocksAt}
use Rattle.scratch.specs.Bytes.{UnchangedOutside}
use Rattle.reduce_numbering.specs.Steps.{number_at, leader_at}
use Rattle.scratch.specs.Map.{blocks_base, leaders_end, numbers_base}

-- a numbering of the blocks whose numbers and leaders are those in scratch
pub record NumberedAs (m : Morphism) (acc : ℕ → ℕ → ℕ) (c : ℕ) (scratch : List ℕ) : Type 0 where
  pub numbering : Numbering m acc c
  pub numbers : (s : ℕ) → numbering.number s ≡ number_at scratch s
  pub leaders : (j : ℕ) → numbering.leader j ≡ leader_at scratch j

-- the first word of block j: its value is an element of the block, and no word with such a value stands before it, the shorter
-- first, then letter order
pub record FirstOfBlock (m : Morphism) (number : ℕ → ℕ) (j s : ℕ) (word : List ℕ) : Type 0 where
  pub over : Over m.letters word
  pub its_value : value m word ≡ element s
  pub its_number : number s ≡ j
  pub least : (v : List ℕ) (t : ℕ) → Over m.letters v → t < m.size → value m v ≡ element t → number t ≡ j → NotAfter word v

-- the blocks' first words, those of their leaders, stand in the order of the numbers
pub record WordsInOrder (m : Morphism) (c : ℕ) (scratch : List ℕ) : Type 0 where
  pub word : ℕ → List ℕ
  pub first : (j : ℕ) → j < c → FirstOfBlock m (number_at scratch) j (leader_at scratch j) (word j)
  pub increasing : (j l : ℕ) → j < l → l < c → Before (word j) (word l)

-- the blocks of a stable round, whichever outcome the rounds went by, are numbered
pub record BlocksNumbered (m : Morphism) (c : ℕ) (entry exit : List ℕ) : Type 0 where
  pub some : 1 ≤ c
  pub few : c ≤ m.size
  pub numbered : (acc : ℕ → ℕ → ℕ) (i : ℕ) → BlocksAt m.size (Together m acc i) entry blocks_base → Stable m acc i → NumberedAs m acc c exit
  pub in_order : WordsInOrder m c exit
  pub kept : UnchangedOutside numbers_base leaders_end entry exit

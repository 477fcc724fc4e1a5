-- The worklist that holds every element, the entries of letters in it, and the columns of products with their elements. Assumes nothing.
use Rattle.std.specs.Prelude.{ℕ, suc, ◌+◌, ◌*◌, ◌≤◌, ◌<◌, ◌≡◌, List, length, get_or}
use Rattle.finite.proofs.FirstWords.{FirstOrder}
use Rattle.theory.specs.Rules.{none}
use Rattle.formats.specs.Table.{morphism_at, product_at}
use Rattle.rule_reach.specs.Reach.{entry_at, parent_at, letter_at, place_at, word_step, Places}

-- the worklist of words holds every element
pub record AllFound (bytes : List ℕ) (n k : ℕ) (queue : List ℕ) (count : ℕ) : Type 0 where
  pub room : 256 ≤ length queue
  pub order : FirstOrder none (word_step (morphism_at bytes n k)) k (entry_at queue) (suc count) (parent_at queue) (letter_at queue)
  pub few : count ≤ n
  pub inside : (i : ℕ) → i < count → get_or queue i 0 < n
  pub places : Places queue n count
  pub have : (s : ℕ) → s < n → 0 < place_at queue s

-- so many entries were found from the empty word's, and those behind them from others
pub record LetterEntries (queue : List ℕ) (count letters : ℕ) : Type 0 where
  pub few : letters ≤ count
  pub first : (i : ℕ) → i < letters → get_or queue (64 + i) 0 ≡ 0
  pub later : (i : ℕ) → letters ≤ i → i < count → 0 < get_or queue (64 + i) 0

-- the products x·h of every x with an element h, 64 bytes for each column
pub record Column (bytes : List ℕ) (n : ℕ) (columns : List ℕ) (j h : ℕ) : Type 0 where
  pub product : (x : ℕ) → x < n → get_or columns (64 * j + x) 0 ≡ product_at bytes n x h

-- a column for each letter's element
pub record LetterColumns (bytes : List ℕ) (n : ℕ) (queue : List ℕ) (letters : ℕ) (columns : List ℕ) : Type 0 where
  pub column : (j : ℕ) → j < letters → Column bytes n columns j (get_or queue j 0)

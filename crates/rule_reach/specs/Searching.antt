-- The search of words while it runs: what is found when every entry before p was tried with all letters, and entry p with
-- the letters before a. Assumes nothing.
use Rattle.std.specs.Prelude.{ℕ, suc, ◌+◌, ◌≤◌, ◌<◌, ◌≡◌, ◌≢◌, List, length, get_or}
use Rattle.finite.proofs.FirstWords.{Sooner}
use Rattle.finite.proofs.Worklist.{Entry}
use Rattle.theory.specs.Rules.{none}
use Rattle.formats.specs.Table.{morphism_at}
use Rattle.scratch.specs.Bytes.{UnchangedOutside}
use Rattle.rule_reach.specs.Reach.{entry_at, parent_at, letter_at, word_step, Places}

-- the c entries of q are different: x₀, and states each found by a pair (parent, letter), in the order of those pairs, and
-- by no sooner pair
pub record Ordered {A : Type 0} (x₀ : A) (δ : ℕ → A → A) (k : ℕ) (q : ℕ → A) (c : ℕ) (parent letter : ℕ → ℕ) : Type 0 where
  pub first : q 0 ≡ x₀
  pub some : 0 < c
  pub parent_lt : (i : ℕ) → 0 < i → i < c → parent i < i
  pub letter_lt : (i : ℕ) → 0 < i → i < c → letter i < k
  pub step : (i : ℕ) → 0 < i → i < c → q i ≡ δ (letter i) (q (parent i))
  pub increasing : (i j : ℕ) → 0 < i → i < j → j < c → Sooner (parent i) (letter i) (parent j) (letter j)
  pub fresh : (j p b : ℕ) → 0 < j → j < c → p < c → b < k → Sooner p b (parent j) (letter j) → δ b (q p) ≢ q j
  pub distinct : (i j : ℕ) → i < j → j < c → q i ≢ q j

-- the entries are x₀ and all that the pairs sooner than (p, a) find
pub record InOrder {A : Type 0} (x₀ : A) (δ : ℕ → A → A) (k : ℕ) (q : ℕ → A) (c : ℕ) (parent letter : ℕ → ℕ) (p a : ℕ) : Type 0 where
  pub entries : Ordered x₀ δ k q c parent letter
  pub sooner : (i : ℕ) → 0 < i → i < c → Sooner (parent i) (letter i) p a
  pub known : (p' b : ℕ) → p' < c → b < k → Sooner p' b p a → Entry q c (δ b (q p'))

-- the worklist in the lent bytes with count elements found, all that the pairs sooner than (p, a) give
pub record Searching (bytes : List ℕ) (n k : ℕ) (queue : List ℕ) (count p a : ℕ) : Type 0 where
  pub room : 256 ≤ length queue
  pub few : count ≤ n
  pub inside : (i : ℕ) → i < count → get_or queue i 0 < n
  pub places : Places queue n count
  pub order : InOrder none (word_step (morphism_at bytes n k)) k (entry_at queue) (suc count) (parent_at queue) (letter_at queue) p a

-- the search keeps the length and every byte from 256 on
abbrev pub Kept : List ℕ → List ℕ → Type 0
Kept entry exit = UnchangedOutside 0 256 entry exit

-- one entry was tried with every letter
pub record Expanded (bytes : List ℕ) (n k : ℕ) (entry exit : List ℕ) (from r : ℕ) : Type 0 where
  pub searching : Searching bytes n k exit r (from + 1) 0
  pub kept : Kept entry exit

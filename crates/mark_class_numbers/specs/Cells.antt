-- The class numbers while they are worked out, two bytes for each pair: what a load and a store do, what a number says once some
-- of the factors x, y were tried, and what the passes over the numbers leave. Assumes nothing.
use Rattle.std.specs.Prelude.{ℕ, ◌+◌, ◌*◌, ◌<◌, ◌≤◌, ◌≡◌, List, length, get_or}
use Rattle.std.proofs.Common.{le_refl, le_trans}
use Rattle.theory.specs.Rules.{Morphism, Marking}
use Rattle.theory.specs.Pairs.{Linked, pair_number, Counted}
use Rattle.theory.proofs.BestConjugates.{Ranking, Best, Better, BestSoFar, ColumnBettered}
use Rattle.formats.specs.Sections.{two_bytes}
use Rattle.scratch.specs.Bytes.{UnchangedOutside}
use Rattle.promises.specs.Classes.{no_class}

-- a two-byte number that was read
pub record Loaded (bytes : List ℕ) (at number : ℕ) : Type 0 where
  pub is_number : number ≡ two_bytes bytes at
  pub small : number < 65536

-- a two-byte number that was written; every other byte is as it was
pub record Stored (entry exit : List ℕ) (at number : ℕ) : Type 0 where
  pub same_length : length exit ≡ length entry
  pub is_number : two_bytes exit at ≡ number
  pub low : get_or exit at 0 < 256
  pub high : get_or exit (at + 1) 0 < 256
  pub others : (i : ℕ) → (i ≡ at → ⊥) → (i ≡ at + 1 → ⊥) → get_or exit i 0 ≡ get_or entry i 0

-- bytes past the numbers of n × n pairs keep what they had
abbrev pub Kept : ℕ → List ℕ → List ℕ → Type 0
Kept n entry exit = UnchangedOutside 0 (2 * (n * n)) entry exit

-- the numbers of the pairs, two bytes each
abbrev pub number_table : ℕ → List ℕ → Marking
number_table n bytes s e = two_bytes bytes (2 * (s * n + e))

-- the least number is best; a pair that is not linked has 65,535
abbrev pub least_number : Morphism → Ranking
least_number m = record {
  no_worse = ◌≤◌;
  reflexive = le_refl;
  transitive = λ a b c p q. le_trans p q;
  without = λ s e number. (Linked m s e → ⊥) × (number ≡ no_class);
}

-- the number of a pair's conjugate, the least by the factors tried so far, or 65,535 where the pair is not linked
abbrev pub Numbered : Morphism → ℕ → ℕ → ℕ → ℕ → Type 0
Numbered m count s e number = Best m (least_number m) (pair_number m) count s e number

-- the pairs with the numbers from `from` up to `to` have their first numbers, before any factors were tried, and nothing else changed
pub record Begun (m : Morphism) (from to : ℕ) (entry exit : List ℕ) : Type 0 where
  pub cells : (s e : ℕ) → e < m.size → from ≤ s * m.size + e → s * m.size + e < to → Numbered m 0 s e (number_table m.size exit s e)
  pub bytes : (i : ℕ) → 2 * from ≤ i → i < 2 * to → get_or exit i 0 < 256
  pub kept : UnchangedOutside (2 * from) (2 * to) entry exit

-- every pair has its number, by the factors tried so far
pub record Classed (m : Morphism) (count : ℕ) (bytes : List ℕ) : Type 0 where
  pub numbers : BestSoFar m (least_number m) (pair_number m) count (number_table m.size bytes)
  pub bytes_small : (i : ℕ) → i < 2 * (m.size * m.size) → get_or bytes i 0 < 256

-- the numbers after factors were tried, and nothing else changed
pub record CellAdvanced (m : Morphism) (count : ℕ) (entry exit : List ℕ) : Type 0 where
  pub classed : Classed m count exit
  pub kept : Kept m.size entry exit

-- the lesser of an old number and that of (s·x, f), where s·e = s; else the old number
abbrev pub Lowest : Morphism → ℕ → ℕ → ℕ → ℕ → ℕ → ℕ → Type 0
Lowest m x e f s old number = Better m (least_number m) (pair_number m) x e f s old number

-- the numbers of (s, e) for the first elements s are lowered, and every other number is as it was
pub record Lowered (m : Morphism) (x e f rows : ℕ) (entry exit : List ℕ) : Type 0 where
  pub kept : Kept m.size entry exit
  pub column : ColumnBettered m (least_number m) (pair_number m) x e f rows (number_table m.size entry) (number_table m.size exit)
  pub bytes : (i : ℕ) → get_or entry i 0 < 256 → get_or exit i 0 < 256

-- how many of the first numbers are those of linked pairs, and how many are their own pair's
pub record CellCounts (bytes : List ℕ) (pairs linked classes : ℕ) : Type 0 where
  pub linked_cells : Counted (λ i. two_bytes bytes (2 * i) ≡ no_class → ⊥) pairs linked
  pub own_cells : Counted (λ i. two_bytes bytes (2 * i) ≡ i) pairs classes
  pub fewer : classes ≤ linked

-- The closure while it is worked out: what the second table says once some of the factors x, y were tried, and what the passes
-- over it leave. Assumes nothing.
use Rattle.std.specs.Prelude.{ℕ, ◌+◌, ◌*◌, ◌≤◌, ◌<◌, ◌≡◌, Bool, true, false, List, length, get_or}
use Rattle.std.proofs.Common.{le_refl, le_trans}
use Rattle.theory.specs.Rules.{Morphism, Marking}
use Rattle.theory.proofs.BestConjugates.{Ranking, Better, BestSoFar, ColumnBettered}
use Rattle.scratch.specs.Map.{second_base, tables_end}

-- the byte of (s, e) in the second table
abbrev pub place : ℕ → ℕ → ℕ
place s e = second_base + (s * 64 + e)

-- every byte but those of pairs of elements in the second table is as it was
pub record Kept (n : ℕ) (entry exit : List ℕ) : Type 0 where
  pub same_length : length exit ≡ length entry
  pub kept : (i : ℕ) → ((s e : ℕ) → s < n → e < n → i ≡ place s e → ⊥) → get_or exit i 0 ≡ get_or entry i 0

-- the first table, and the second
abbrev pub first_table : List ℕ → Marking
first_table bytes s e = get_or bytes (s * 64 + e) 0

abbrev pub second_table : List ℕ → Marking
second_table bytes s e = get_or bytes (place s e) 0

-- the highest mark is best; a pair with no conjugate has 0
abbrev pub highest_mark : Ranking
highest_mark = record {
  no_worse = λ a b. b ≤ a;
  reflexive = λ a. le_refl a;
  transitive = λ a b c p q. le_trans q p;
  without = λ s e byte. byte ≡ 0;
}

-- the second table has the highest marks that the factors tried so far take its pairs to
pub record ClosedSoFar (m : Morphism) (count : ℕ) (bytes : List ℕ) : Type 0 where
  pub room : tables_end ≤ length bytes
  pub marks : BestSoFar m highest_mark (first_table bytes) count (second_table bytes)

-- the second table after factors were tried, and nothing else changed
pub record ClosureAdvanced (m : Morphism) (count : ℕ) (entry exit : List ℕ) : Type 0 where
  pub so_far : ClosedSoFar m count exit
  pub kept : Kept m.size entry exit

-- the byte of (s, e) after the factors x, y with e = x·y and f = y·x: the higher of the old byte and, where s·e = s, the mark of (s·x, f)
abbrev pub ByteAfter : Morphism → Marking → ℕ → ℕ → ℕ → ℕ → ℕ → ℕ → Type 0
ByteAfter m marks x e f s old byte = Better m highest_mark marks x e f s old byte

-- the bytes of (s, e) for the first elements s have changed so, and every other byte is as it was
pub record ColumnClosed (m : Morphism) (x e f rows : ℕ) (entry exit : List ℕ) : Type 0 where
  pub kept : Kept m.size entry exit
  pub column : ColumnBettered m highest_mark (first_table entry) x e f rows (second_table entry) (second_table exit)

-- of the first bytes of the second table, none is higher than its fellow in the first table
pub record SecondInFirst (bytes : List ℕ) (count : ℕ) : Type 0 where
  pub both : (i : ℕ) → i < count → get_or bytes (second_base + i) 0 ≤ get_or bytes i 0

-- one that is higher
pub record SecondOnly (bytes : List ℕ) (count : ℕ) : Type 0 where
  pub at : ℕ
  pub below : at < count
  pub higher : get_or bytes at 0 < get_or bytes (second_base + at) 0

-- whether no byte among the first of the second table is higher than its fellow
abbrev pub WithinAnswer : List ℕ → ℕ → Bool → Type 0
WithinAnswer bytes count true = SecondInFirst bytes count
WithinAnswer bytes count false = SecondOnly bytes count

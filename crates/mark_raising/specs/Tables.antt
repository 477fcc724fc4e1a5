-- Two tables of marks in scratch, the first a rule's marks and the second what is worked out of them. Assumes nothing.
use Rattle.std.specs.Prelude.{ℕ, ◌+◌, ◌*◌, ◌≤◌, ◌<◌, ◌≡◌, List, length, get_or}
use Rattle.std.proofs.Common.{le_refl, le_trans}
use Rattle.theory.specs.Rules.{Morphism, Marking}
use Rattle.theory.proofs.BestConjugates.{Ranking, BestSoFar}
use Rattle.scratch.specs.Map.{second_base, tables_end}

-- the byte of (s, e) in the second table
abbrev pub place : ℕ → ℕ → ℕ
place s e = second_base + (s * 64 + e)

-- every byte but those of pairs of elements in the second table is as it was
pub record Kept (n : ℕ) (entry exit : List ℕ) : Type 0 where
  pub same_length : length exit ≡ length entry
  pub kept : (i : ℕ) → ((s e : ℕ) → s < n → e < n → i ≡ place s e → ⊥) → get_or exit i 0 ≡ get_or entry i 0

-- the first table, and the second
abbrev pub first_table : List ℕ → Marking
first_table bytes s e = get_or bytes (s * 64 + e) 0

abbrev pub second_table : List ℕ → Marking
second_table bytes s e = get_or bytes (place s e) 0

-- the highest mark is best; a pair with no conjugate has 0
abbrev pub highest_mark : Ranking
highest_mark = record {
  no_worse = λ a b. b ≤ a;
  reflexive = λ a. le_refl a;
  transitive = λ a b c p q. le_trans q p;
  without = λ s e byte. byte ≡ 0;
}

-- the second table has the highest marks that the factors tried so far take its pairs to
pub record ClosedSoFar (m : Morphism) (count : ℕ) (bytes : List ℕ) : Type 0 where
  pub room : tables_end ≤ length bytes
  pub marks : BestSoFar m highest_mark (first_table bytes) count (second_table bytes)

-- Outcomes of two rules compared where a map takes the values of one to those of the other. Assumes nothing.
--
--    8192  the outcomes of the second rule, a byte for each pair of values (s, z), at s·64 + z
--   61440  the closure of the first rule's marks, a byte for each pair (s, e), at s·64 + e; it ends at 65536
use Rattle.std.specs.Prelude.{ℕ, ◌≤◌, ◌<◌, ◌≡◌, List, length, get_or}
use Rattle.theory.specs.Rules.{Morphism, Lawful}
use Rattle.theory.proofs.Strength.{settled_start, settled_cycle}
use Rattle.formats.specs.Table.{morphism_at}
use Rattle.formats.specs.RuleChecks.{scratch_size}
use Rattle.formats.proofs.Tables.{Table}
use Rattle.scratch.specs.Map.{search_end, marks_from}
use Rattle.reduce_first_round.specs.Map.{outcome_at}

-- lassos with the values (s, z) come to what those with the values that the map takes them to do: the first rule's mark of the pair (s·f, f),
-- f the idempotent power of z, is the outcome of those
abbrev pub OutcomeKept : Morphism → List ℕ → List ℕ → ℕ → ℕ → Type 0
OutcomeKept m map scratch s z =
    marks_from scratch search_end (settled_start m s z) (settled_cycle m z) ≡ outcome_at scratch (get_or map s 0) (get_or map z 0)

-- and so for all values
pub record GradesKept (m : Morphism) (map scratch : List ℕ) : Type 0 where
  pub kept : (s z : ℕ) → s < m.size → z < m.size → OutcomeKept m map scratch s z

-- a lawful table, a byte for each of its elements that is one of n₂ elements, and scratch has its size
pub record GradesNeeds (first : List ℕ) (n₁ k₁ : ℕ) (map : List ℕ) (n₂ : ℕ) (scratch : List ℕ) : Type 0 where
  pub table : Table first n₁ k₁
  pub law : Lawful (morphism_at first n₁ k₁)
  pub bytes : length map ≡ n₁
  pub inside : (s : ℕ) → s < n₁ → get_or map s 0 < n₂
  pub few : n₂ ≤ 64
  pub room : scratch_size ≤ length scratch

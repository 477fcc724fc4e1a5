-- The grades of two rules at the contexts of the table of their pairs, by the closures in scratch. Assumes nothing.
use Rattle.std.specs.Prelude.{ℕ, ◌+◌, ◌*◌, max, ◌≤◌, ◌<◌, List, length}
use Rattle.theory.specs.Rules.{Morphism}
use Rattle.theory.proofs.Strength.{settled_start, settled_cycle}
use Rattle.formats.specs.Table.{morphism_at}
use Rattle.formats.specs.RuleChecks.{scratch_size}
use Rattle.scratch.specs.Map.{second_base, search_end, marks_from}
use Rattle.pair_list.specs.Pairs.{left_at, right_at, TwoTables}

-- what lassos with the values (s, z) come to, by a table of marks that begins at a byte: its mark of the pair (s·f, f), f the idempotent power of z
unfoldable pub look : Morphism → List ℕ → ℕ → ℕ → ℕ → ℕ
look m scratch base s z = marks_from scratch base (settled_start m s z) (settled_cycle m z)

-- of the halves of two pairs: the second rule's grade, and four times the higher of both
unfoldable pub both_grades : List ℕ → ℕ → List ℕ → ℕ → ℕ → List ℕ → ℕ → ℕ → ℕ
both_grades first n₁ second n₂ k scratch t z =
    look (morphism_at second n₂ k) scratch second_base (right_at scratch t) (right_at scratch z)
    + 4 * max (look (morphism_at second n₂ k) scratch second_base (right_at scratch t) (right_at scratch z)) (look (morphism_at first n₁ k) scratch search_end (left_at scratch t) (left_at scratch z))

-- two lawful tables, halves that are elements, looks that are grades, and room
pub record GradesNeeds (first : List ℕ) (n₁ : ℕ) (second : List ℕ) (n₂ k count : ℕ) (scratch : List ℕ) : Type 0 where
  pub tables : TwoTables first n₁ second n₂ k
  pub few : count ≤ 64
  pub lefts : (i : ℕ) → i < count → left_at scratch i < n₁
  pub rights : (i : ℕ) → i < count → right_at scratch i < n₂
  pub first_small : (s z : ℕ) → s < n₁ → z < n₁ → look (morphism_at first n₁ k) scratch search_end s z ≤ 3
  pub second_small : (s z : ℕ) → s < n₂ → z < n₂ → look (morphism_at second n₂ k) scratch second_base s z ≤ 3
  pub room : scratch_size ≤ length scratch

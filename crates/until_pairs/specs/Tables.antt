-- What is asked for and what is laid out of the table of the pairs and the grades. Assumes nothing.
use Rattle.std.specs.Prelude.{ℕ, ◌≤◌, ◌<◌, ◌≡◌, List, length}
use Rattle.formats.specs.Table.{morphism_at}
use Rattle.scratch.specs.Map.{second_base, search_end}
use Rattle.pair_list.specs.Pairs.{TwoTables}
use Rattle.pair_list.specs.Tables.{PairTable}
use Rattle.pair_rule.specs.Writing.{laid_pairs, PairsLayNeeds}
use Rattle.until_grades.specs.Grades.{look, both_grades}
use Rattle.until_step.specs.Bytes.{grades_at}

-- a complete list of the pairs of two lawful tables, closures whose looks are grades, and room
pub record TableNeeds (first : List ℕ) (n₁ : ℕ) (second : List ℕ) (n₂ k count : ℕ) (scratch : List ℕ) : Type 0 where
  pub tables : TwoTables first n₁ second n₂ k
  pub lay : PairsLayNeeds first n₁ second n₂ k count scratch
  pub first_small : (s z : ℕ) → s < n₁ → z < n₁ → look (morphism_at first n₁ k) scratch search_end s z ≤ 3
  pub second_small : (s z : ℕ) → s < n₂ → z < n₂ → look (morphism_at second n₂ k) scratch second_base s z ≤ 3

-- the table and the grades stand in scratch
pub record TableLaid (first : List ℕ) (n₁ : ℕ) (second : List ℕ) (n₂ k count : ℕ) (entry exit : List ℕ) : Type 0 where
  pub same_length : length exit ≡ length entry
  pub table : PairTable first n₁ second n₂ k entry count (laid_pairs exit count k)
  pub grades : (t z : ℕ) → t < count → z < count → grades_at exit t z ≡ both_grades first n₁ second n₂ k entry t z

-- The search of pairs while it runs: what is found when every entry before p was tried with all letters, and entry p with the letters
-- before a. Assumes nothing.
use Rattle.std.specs.Prelude.{ℕ, suc, ◌+◌, ◌≤◌, ◌<◌, List, length, Option, Some, None}
use Rattle.theory.specs.Rules.{none}
use Rattle.theory.specs.Combined.{MorePairs}
use Rattle.formats.specs.Table.{morphism_at}
use Rattle.formats.specs.RuleChecks.{scratch_size}
use Rattle.rule_reach.specs.Searching.{InOrder}
use Rattle.pair_list.specs.Pairs.{left_at, right_at, entry_at, parent_at, letter_at, pair_step, Numbers, Kept}

-- the list with count pairs found, all that the pairs (entry, letter) sooner than (p, a) give
pub record Searching (first : List ℕ) (n₁ : ℕ) (second : List ℕ) (n₂ k : ℕ) (scratch : List ℕ) (count p a : ℕ) : Type 0 where
  pub room : scratch_size ≤ length scratch
  pub few : count ≤ 64
  pub left_inside : (i : ℕ) → i < count → left_at scratch i < n₁
  pub right_inside : (i : ℕ) → i < count → right_at scratch i < n₂
  pub numbers : Numbers scratch count
  pub order : InOrder (none, none) (pair_step (morphism_at first n₁ k) (morphism_at second n₂ k)) k (entry_at scratch) (suc count) (parent_at scratch) (letter_at scratch) p a

-- letter a is due at entry p, which is there
pub record Trying (first : List ℕ) (n₁ : ℕ) (second : List ℕ) (n₂ k : ℕ) (scratch : List ℕ) (count p a : ℕ) : Type 0 where
  pub searching : Searching first n₁ second n₂ k scratch count p a
  pub there : p ≤ count

-- the letter was tried, or there are more than 64 pairs
abbrev pub TryAnswer : List ℕ → ℕ → List ℕ → ℕ → ℕ → List ℕ → ℕ → ℕ → Option ℕ → Type 0
TryAnswer first n₁ second n₂ k exit p a (Some total) = Trying first n₁ second n₂ k exit total p (a + 1)
TryAnswer first n₁ second n₂ k exit p a None = MorePairs (morphism_at first n₁ k) (morphism_at second n₂ k) 64

pub record Tried (first : List ℕ) (n₁ : ℕ) (second : List ℕ) (n₂ k : ℕ) (entry exit : List ℕ) (p a : ℕ) (answer : Option ℕ) : Type 0 where
  pub kept : Kept entry exit
  pub says : TryAnswer first n₁ second n₂ k exit p a answer

-- every letter was tried at entry p, or there are more than 64 pairs
abbrev pub ExpandAnswer : List ℕ → ℕ → List ℕ → ℕ → ℕ → List ℕ → ℕ → Option ℕ → Type 0
ExpandAnswer first n₁ second n₂ k exit p (Some total) = Searching first n₁ second n₂ k exit total (p + 1) 0
ExpandAnswer first n₁ second n₂ k exit p None = MorePairs (morphism_at first n₁ k) (morphism_at second n₂ k) 64

pub record Expanded (first : List ℕ) (n₁ : ℕ) (second : List ℕ) (n₂ k : ℕ) (entry exit : List ℕ) (p : ℕ) (answer : Option ℕ) : Type 0 where
  pub kept : Kept entry exit
  pub says : ExpandAnswer first n₁ second n₂ k exit p answer

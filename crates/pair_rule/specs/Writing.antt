-- What is asked for and what is written on the way from the list of pairs to the file of their rule. Assumes nothing.
use Rattle.std.specs.Prelude.{ℕ, ◌+◌, ◌≤◌, ◌<◌, ◌≡◌, List, length, get_or}
use Rattle.theory.specs.Rules.{Morphism, Marking}
use Rattle.theory.specs.Pairs.{Linked}
use Rattle.formats.specs.RuleChecks.{rule_size, scratch_size}
use Rattle.formats.specs.WrittenFile.{file_of}
use Rattle.formats.specs.Front.{AtFront}
use Rattle.promises.specs.declared.Operation.{Operation}
use Rattle.scratch.specs.Map.{laid_images_base, laid_marks_base, marks_from}
use Rattle.rule_laid.specs.Laid.{laid_table}
use Rattle.pair_list.specs.Pairs.{PairList}
use Rattle.pair_list.specs.Tables.{PairTable}
use Rattle.pair_marks.specs.Marks.{pair_grade}

-- the rule that is laid out: its table, with its letters
abbrev pub laid_pairs : List ℕ → ℕ → ℕ → Morphism
laid_pairs scratch count k = record { size = count; letters = k; product = (laid_table scratch count).product; image = λ x. get_or scratch (laid_images_base + x) 0 }

-- a complete list of pairs, and room
pub record PairsLayNeeds (first : List ℕ) (n₁ : ℕ) (second : List ℕ) (n₂ k count : ℕ) (scratch : List ℕ) : Type 0 where
  pub list : PairList first n₁ second n₂ k scratch count
  pub room : scratch_size ≤ length scratch

-- and letters, and room for the longest file
pub record PairsRuleNeeds (first : List ℕ) (n₁ : ℕ) (second : List ℕ) (n₂ k count : ℕ) (scratch out : List ℕ) : Type 0 where
  pub lay : PairsLayNeeds first n₁ second n₂ k count scratch
  pub letters_some : 1 ≤ k
  pub out_room : rule_size ≤ length out

-- each linked pair is marked with the grade combined from those of its halves, and no other pair
pub record MarksPairGrades (m : Morphism) (operation : Operation) (scratch : List ℕ) (marks : Marking) : Type 0 where
  pub of_linked : (i j : ℕ) → Linked m i j → marks i j ≡ pair_grade operation scratch i j
  pub of_others : (i j : ℕ) → i < m.size → j < m.size → (Linked m i j → ⊥) → marks i j ≡ 0

-- the table of the pairs and its marks are laid out
pub record PairsLaid (first : List ℕ) (n₁ : ℕ) (second : List ℕ) (n₂ k count : ℕ) (operation : Operation) (entry exit : List ℕ) : Type 0 where
  pub same_length : length exit ≡ length entry
  pub table : PairTable first n₁ second n₂ k entry count (laid_pairs exit count k)
  pub marked : MarksPairGrades (laid_pairs exit count k) operation entry (marks_from exit laid_marks_base)

-- and written
pub record PairsWritten (first : List ℕ) (n₁ : ℕ) (second : List ℕ) (n₂ k count : ℕ) (operation : Operation) (entry exit before after : List ℕ) (end : ℕ) : Type 0 where
  pub laid : PairsLaid first n₁ second n₂ k count operation entry exit
  pub written : AtFront (file_of (laid_pairs exit count k) (marks_from exit laid_marks_base)) before after end

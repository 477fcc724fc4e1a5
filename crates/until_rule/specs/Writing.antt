-- What is asked for and what is written of the rule of `until`, whatever table and grades stand in scratch. Assumes nothing.
use Rattle.std.specs.Prelude.{ℕ, ◌≤◌, ◌≡◌, List, length, Option, Some, None}
use Rattle.theory.specs.Rules.{Morphism, Lawful, Marking}
use Rattle.temporal.specs.Clamps.{UntilClassesOf, until_outcome, MoreUntilClasses}
use Rattle.minimality.proofs.Saturation.{MarksOutcomes}
use Rattle.formats.specs.FirstWords.{ByFirstWords}
use Rattle.formats.specs.RuleChecks.{rule_size}
use Rattle.formats.specs.WrittenFile.{file_of}
use Rattle.formats.specs.Front.{AtFront}
use Rattle.until_list.specs.Listing.{pairs_table, Listing}
use Rattle.until_list.specs.Following.{ListReady}

-- a table and grades in scratch, letters, and room
pub record UntilNeeds (np k : ℕ) (scratch classes out : List ℕ) : Type 0 where
  pub ready : ListReady np k scratch classes
  pub letters_some : 1 ≤ k
  pub out_room : rule_size ≤ length out

-- the table of the classes was written, each linked pair marked with its grade
pub record UntilRuleWritten (m : Morphism) (first second : ℕ → ℕ → ℕ) (before after : List ℕ) (end : ℕ) : Type 0 where
  pub table : Morphism
  pub marks : Marking
  pub pair : ℕ → ℕ
  pub low : ℕ → ℕ → ℕ → ℕ
  pub high : ℕ → ℕ → ℕ → ℕ
  pub lawful : Lawful table
  pub classes : UntilClassesOf m first second table pair low high
  pub numbered : ByFirstWords table
  pub marked : MarksOutcomes table (until_outcome pair low high) marks
  pub some : 1 ≤ table.size
  pub few : table.size ≤ 64
  pub written : AtFront (file_of table marks) before after end

-- or there are more than 64 classes, and out is kept
pub record TooManyUntil (m : Morphism) (first second : ℕ → ℕ → ℕ) (before after : List ℕ) : Type 0 where
  pub more : MoreUntilClasses m first second 64
  pub kept : after ≡ before

abbrev pub UntilFileAnswer : Morphism → (ℕ → ℕ → ℕ) → (ℕ → ℕ → ℕ) → List ℕ → List ℕ → Option ℕ → Type 0
UntilFileAnswer m first second before after (Some end) = UntilRuleWritten m first second before after end
UntilFileAnswer m first second before after None = TooManyUntil m first second before after

pub record UntilWritten (np k : ℕ) (entry exit classes classes' before after : List ℕ) (answer : Option ℕ) : Type 0 where
  pub same_length : length exit ≡ length entry
  pub classes_length : length classes' ≡ length classes
  pub says : (product : ℕ → ℕ → ℕ) (image : ℕ → ℕ) (first second : ℕ → ℕ → ℕ) → Listing (pairs_table np k product image) first second entry classes 0 0 0
      → UntilFileAnswer (pairs_table np k product image) first second before after answer

-- What is asked for and what is written of the rule of `next`. Assumes nothing.
use Rattle.std.specs.Prelude.{ℕ, ◌≤◌, ◌<◌, ◌≡◌, List, length, Option, Some, None}
use Rattle.theory.specs.Rules.{Morphism, Lawful, Marking, Value}
use Rattle.temporal.specs.Nexts.{NextClassesOf, next_outcome, MoreNextClasses}
use Rattle.minimality.proofs.Saturation.{MarksOutcomes}
use Rattle.formats.specs.FirstWords.{ByFirstWords}
use Rattle.formats.specs.RuleChecks.{rule_size, scratch_size}
use Rattle.formats.specs.WrittenFile.{file_of}
use Rattle.formats.specs.Front.{AtFront}
use Rattle.promises.specs.Monitor.{value_of}
use Rattle.reduce_first_round.specs.Map.{outcome_of, outcome_at}
use Rattle.next_list.specs.Pairs.{tail_at, whole_at}

-- the values of count classes are numbers of a table, and there is room
pub record PairsSmall (count : ℕ) (scratch : List ℕ) : Type 0 where
  pub few : count ≤ 64
  pub tails : (j : ℕ) → j < count → tail_at scratch j ≤ 64
  pub wholes : (j : ℕ) → j < count → whole_at scratch j < 64
  pub room : scratch_size ≤ length scratch

-- the grade of the pair of classes (s, e), by the outcomes in scratch
unfoldable pub next_grade : List ℕ → ℕ → ℕ → ℕ
next_grade scratch s e = next_outcome (outcome_at scratch) (λ j. value_of (tail_at scratch j)) (whole_at scratch) s e

-- a lawful table with letters, and room
pub record NextNeeds (m : Morphism) (scratch out : List ℕ) : Type 0 where
  pub lawful : Lawful m
  pub letters_some : 1 ≤ m.letters
  pub room : scratch_size ≤ length scratch
  pub out_room : rule_size ≤ length out

-- the table of the classes was written, each linked pair marked with its grade by the outcomes that the second table of marks gives
pub record NextRuleWritten (m : Morphism) (entry before after : List ℕ) (end : ℕ) : Type 0 where
  pub table : Morphism
  pub marks : Marking
  pub tail : ℕ → Value
  pub whole : ℕ → ℕ
  pub lawful : Lawful table
  pub classes : NextClassesOf m table tail whole
  pub numbered : ByFirstWords table
  pub marked : MarksOutcomes table (next_outcome (outcome_of m entry) tail whole) marks
  pub some : 1 ≤ table.size
  pub few : table.size ≤ 64
  pub written : AtFront (file_of table marks) before after end

-- or there are more than 64 classes, and out is kept
pub record TooManyNext (m : Morphism) (before after : List ℕ) : Type 0 where
  pub more : MoreNextClasses m 64
  pub kept : after ≡ before

abbrev pub NextFileAnswer : Morphism → List ℕ → List ℕ → List ℕ → Option ℕ → Type 0
NextFileAnswer m entry before after (Some end) = NextRuleWritten m entry before after end
NextFileAnswer m entry before after None = TooManyNext m before after

pub record NextWritten (m : Morphism) (entry exit before after : List ℕ) (answer : Option ℕ) : Type 0 where
  pub same_length : length exit ≡ length entry
  pub says : NextFileAnswer m entry before after answer

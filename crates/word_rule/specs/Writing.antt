-- What is asked for and what is written of the rule of recorded classes of words. Assumes nothing.
use Rattle.std.specs.Prelude.{ℕ, ◌≤◌, ◌<◌, ◌≡◌, List, length}
use Rattle.theory.specs.Pairs.{Linked}
use Rattle.formats.specs.RuleChecks.{rule_size, scratch_size}
use Rattle.formats.specs.WrittenFile.{file_of}
use Rattle.formats.specs.Front.{AtFront}
use Rattle.minimality.proofs.Saturation.{MarksOutcomes}
use Rattle.scratch.specs.Map.{laid_marks_base, marks_from}
use Rattle.rule_laid.specs.Laid.{laid_table}
use Rattle.word_steps.specs.Records.{RecordsKept}
use Rattle.word_table.specs.Laying.{laid_rule, TableNeeds, AlongWord}

-- at most 64 classes, and room
pub record GradesNeeds (count : ℕ) (scratch : List ℕ) : Type 0 where
  pub few : count ≤ 64
  pub room : scratch_size ≤ length scratch

-- the mark of two classes: the grade that stands for them where the laid products link them, else 0
pub record LinkedGrade (count : ℕ) (scratch : List ℕ) (s e byte : ℕ) : Type 0 where
  pub of_linked : Linked (laid_table scratch count) s e → byte ≡ marks_from scratch laid_marks_base s e
  pub of_others : (Linked (laid_table scratch count) s e → ⊥) → byte ≡ 0

-- recorded classes, some, letters, and room for the longest file
pub record WordsNeeds (count k : ℕ) (scratch out : List ℕ) : Type 0 where
  pub table : TableNeeds scratch count
  pub some : 1 ≤ count
  pub letters_some : 1 ≤ k
  pub letters_small : k ≤ 16
  pub out_room : rule_size ≤ length out

-- the rule of the classes was written: products along the words, and the linked pairs marked with the grades that stood for them
pub record WordsWritten (count k : ℕ) (entry exit before after : List ℕ) (end : ℕ) : Type 0 where
  pub same_length : length exit ≡ length entry
  pub records : RecordsKept entry exit
  pub products : (i j : ℕ) → i < count → j < count → AlongWord count exit i j ((laid_rule exit count k).product i j)
  pub marked : MarksOutcomes (laid_rule exit count k) (marks_from entry laid_marks_base) (marks_from exit laid_marks_base)
  pub written : AtFront (file_of (laid_rule exit count k) (marks_from exit laid_marks_base)) before after end

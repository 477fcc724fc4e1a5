-- What it is for bytes to read back as a rule. Assumes nothing.
use Rattle.std.specs.Prelude.{ℕ, ◌≤◌, ◌<◌, ◌≡◌, List, length}
use Rattle.answer.specs.Checks.{passed, FirstFailure}
use Rattle.theory.specs.Words.{Over}
use Rattle.theory.specs.Rules.{Morphism, Marking}
use Rattle.formats.specs.Table.{product_at, image_at}
use Rattle.formats.specs.RuleFile.{elements_of, letters_of, marking_of, rule_end}
use Rattle.formats.specs.RuleChecks.{rule_checks, rule_size}
use Rattle.formats.specs.WrittenFile.{file_of}
use Rattle.formats.specs.Front.{AtFront}

-- the bytes mean the morphism and the grade of each pair of elements
pub record ReadsBack (m : Morphism) (marks : Marking) (bytes : List ℕ) : Type 0 where
  pub elements : elements_of bytes ≡ m.size
  pub letters : letters_of bytes ≡ m.letters
  pub products : (a b : ℕ) → a < m.size → b < m.size → product_at bytes m.size a b ≡ m.product a b
  pub images : (a : ℕ) → a < m.letters → image_at bytes m.size a ≡ m.image a
  pub marking : (s e : ℕ) → s < m.size → e < m.size → marking_of bytes s e ≡ marks s e

-- the bytes end with the last section, are no more than the longest file has, and each is a byte
pub record FileShape (bytes : List ℕ) : Type 0 where
  pub ends : rule_end bytes ≡ length bytes
  pub short : length bytes ≤ rule_size
  pub small : Over 256 bytes

-- a rule's file stands at the front of a buffer, and the rest of the buffer is as it was; it passes every check of a rule file,
-- and means the rule
pub record WrittenRule (m : Morphism) (marks : Marking) (entry exit : List ℕ) (r : ℕ) : Type 0 where
  pub front : AtFront (file_of m marks) entry exit r
  pub passes : (input : ℕ) → FirstFailure (rule_checks input (file_of m marks)) passed
  pub reads_back : ReadsBack m marks (file_of m marks)
  pub shape : FileShape (file_of m marks)

-- What is asked for and what is written of the rule of a first letter. Assumes nothing.
use Rattle.std.specs.Prelude.{ℕ, ◌*◌, ◌≤◌, List, [], ◌∷◌, ◌++◌, length, take}
use Rattle.formats.specs.RuleChecks.{rule_size}
use Rattle.formats.specs.WrittenFile.{file_of}
use Rattle.formats.specs.Front.{AtFront}
use Rattle.first_letter_rule.proofs.FirstLetters.{first_table, first_marks}

-- at most two elements, the bytes of the letters and of the marks, and room
pub record SectionsNeeds (n k : ℕ) (elements marks : List ℕ) (count size : ℕ) (out : List ℕ) : Type 0 where
  pub few : n ≤ 2
  pub letters_small : k ≤ 16
  pub elements_long : k ≤ length elements
  pub count_small : count ≤ 4
  pub marks_long : size ≤ length marks
  pub size_small : size ≤ 7
  pub room : rule_size ≤ length out

-- three sections, each behind its count
abbrev pub section_bytes : ℕ → ℕ → List ℕ → List ℕ → ℕ → ℕ → List ℕ
section_bytes n k elements marks count size = (n ∷ take (n * n) (0 ∷ 0 ∷ 1 ∷ 1 ∷ [])) ++ ((k ∷ take k elements) ++ (count ∷ take size marks))

pub record SectionsWritten (n k : ℕ) (elements marks : List ℕ) (count size : ℕ) (before after : List ℕ) (end : ℕ) : Type 0 where
  pub front : AtFront (section_bytes n k elements marks count size) before after end

-- the file of a rule whose products are their left factors
pub record RuleWritten (n k : ℕ) (image grade : ℕ → ℕ) (before after : List ℕ) (end : ℕ) : Type 0 where
  pub front : AtFront (file_of (first_table n k image) (first_marks grade)) before after end

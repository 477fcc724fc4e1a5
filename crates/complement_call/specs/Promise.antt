-- What the call for the complement promises. Assumes nothing.
use Rattle.std.specs.Prelude.{ℕ, ◌≤◌, List, length}
use Rattle.theory.specs.Rules.{Morphism}
use Rattle.formats.specs.RuleChecks.{rule_size}
use Rattle.formats.specs.WrittenFile.{file_of}
use Rattle.scratch.specs.Map.{second_base, tables_end, marks_from}

-- a second table of marks, and room for the longest file
pub record WriteNeeds (k : ℕ) (scratch out : List ℕ) : Type 0 where
  pub letters_some : 1 ≤ k
  pub marks_long : tables_end ≤ length scratch
  pub room : rule_size ≤ length out

-- the file of the rule with the marks of the second table
abbrev pub second_file : Morphism → List ℕ → List ℕ
second_file m scratch = file_of m (marks_from scratch second_base)

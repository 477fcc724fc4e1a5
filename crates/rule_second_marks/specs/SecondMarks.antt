-- What reading a second marks section leaves. Document 01, "Inclusion": "a second marks section as second input, checked
-- against the same table". Assumes nothing.
use Rattle.std.specs.Prelude.{Result, Ok, Err}
use Rattle.answer.specs.declared.Fault.{Fault}
use Rattle.std.specs.Prelude.{ℕ, ◌≤◌, ◌<◌, ◌≡◌, List, length, get_or}
use Rattle.formats.specs.RuleFile.{marks_in}
use Rattle.scratch.specs.Map.{mark_table_size}
use Rattle.rule_marks.specs.Faults.{MarksLaid}

-- room for a byte for each pair, none marked yet
pub record MarksSpace (table : List ℕ) : Type 0 where
  pub room : mark_table_size ≤ length table
  pub blank : (i : ℕ) → i < mark_table_size → get_or table i 0 ≡ 0

-- good marks are laid out in the table; after a refusal only its length is known
abbrev pub SecondAnswer : List ℕ → ℕ → List ℕ → List ℕ → Result (Unit {0}) Fault → Type 0
SecondAnswer bytes n entry exit (Ok done) = MarksLaid (marks_in bytes 0) n entry exit
SecondAnswer bytes n entry exit (Err fault) = length exit ≡ length entry

-- What the functions of this crate ask for and what they write: the marks' section, and the file of a rule of tables. Assumes nothing.
use Rattle.std.specs.Prelude.{ℕ, ◌+◌, ◌*◌, ◌≤◌, ◌<◌, ◌≡◌, List, length, get_or}
use Rattle.theory.specs.Rules.{Morphism}
use Rattle.formats.specs.RuleFile.{mark_width}
use Rattle.formats.specs.RuleChecks.{rule_size}
use Rattle.formats.specs.WrittenFile.{marks_bytes, file_of}
use Rattle.scratch.specs.Map.{mark_table_size}
use Rattle.rule_bytes.specs.Writing.{Written, table_marks}

-- the morphism of n elements and k letters with the product a·b in byte a·n+b of a table and the image of the letter a in byte
-- a of another
abbrev pub table_morphism : List ℕ → List ℕ → ℕ → ℕ → Morphism
table_morphism table images n k =
    record { size = n; letters = k; product = λ a b. get_or table (a * n + b) 0; image = λ a. get_or images a 0 }

-- a table of marks for up to 64 elements
pub record MarksTable (marks : List ℕ) (n : ℕ) : Type 0 where
  pub small : n ≤ 64
  pub long : mark_table_size ≤ length marks

-- a row of a table of marks, and room for all of its marks
pub record RowNeeds (marks : List ℕ) (n s : ℕ) (out : List ℕ) (at : ℕ) : Type 0 where
  pub table : MarksTable marks n
  pub inside : s < n
  pub room : at + mark_width * n ≤ length out

-- a table of marks, and room for all of its marks
pub record AllNeeds (marks : List ℕ) (n : ℕ) (out : List ℕ) (at : ℕ) : Type 0 where
  pub table : MarksTable marks n
  pub room : at + mark_width * (n * n) ≤ length out

-- a table of marks, and room for the longest marks' section of n elements
pub record MarksNeeds (marks : List ℕ) (n : ℕ) (out : List ℕ) (at : ℕ) : Type 0 where
  pub table : MarksTable marks n
  pub room : at + (2 + mark_width * (n * n)) ≤ length out

-- the marks' section of any morphism with n elements was written
pub record MarksWritten (marks : List ℕ) (n : ℕ) (before : List ℕ) (at : ℕ) (after : List ℕ) (end : ℕ) : Type 0 where
  pub section : (m : Morphism) → m.size ≡ n → Written before at (marks_bytes m (table_marks marks)) after end

-- the tables of a rule within the limits of the format, and room for the longest file
pub record RuleNeeds (table images marks : List ℕ) (n k : ℕ) (out : List ℕ) : Type 0 where
  pub some : 1 ≤ n
  pub small : n ≤ 64
  pub letters_some : 1 ≤ k
  pub letters_small : k ≤ 16
  pub table_long : n * n ≤ length table
  pub images_long : k ≤ length images
  pub marks_long : mark_table_size ≤ length marks
  pub room : rule_size ≤ length out

-- the file of the rule of the tables
abbrev pub table_file : List ℕ → List ℕ → List ℕ → ℕ → ℕ → List ℕ
table_file table images marks n k = file_of (table_morphism table images n k) (table_marks marks)

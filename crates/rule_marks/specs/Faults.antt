-- What the checks of a marks section answer, and how its marks are laid out. Assumes nothing.
use Rattle.std.specs.Prelude.{ℕ, ◌+◌, ◌*◌, ◌≤◌, ◌<◌, ◌≡◌, Bool, true, false, List, length, get_or, Result, Ok, Err}
use Rattle.answer.specs.declared.Fault.{Fault}
use Rattle.answer.specs.Checks.{Check, passed, refused, FirstFailure}
use Rattle.theory.specs.Rules.{Morphism}
use Rattle.theory.specs.Pairs.{Linked}
use Rattle.formats.specs.Sections.{InRange}
use Rattle.formats.specs.RuleFile.{mark_width, mark_start, mark_cycle, mark_grade, grade_among}
use Rattle.scratch.specs.Map.{mark_table_size}

-- checks that pass, or the first that fails, whatever the number of the input
abbrev pub FaultAnswer : (ℕ → List Check) → Result (Unit {0}) Fault → Type 0
FaultAnswer checks (Ok u) = (input : ℕ) → FirstFailure (checks input) passed
FaultAnswer checks (Err f) = (input : ℕ) → FirstFailure (checks input) (refused f.refusal input f.place)

-- whether a pair of elements is linked
abbrev pub LinkedAnswer : Morphism → ℕ → ℕ → Bool → Type 0
LinkedAnswer m s e true = Linked m s e
LinkedAnswer m s e false = Linked m s e → ⊥

-- a marks section whose entries are elements and grades, and room for a byte for each pair, none marked yet
pub record MarksRoom (bytes : List ℕ) (at count n : ℕ) (table : List ℕ) : Type 0 where
  pub long : at + (2 + mark_width * count) ≤ length bytes
  pub starts : (i : ℕ) → i < count → mark_start bytes at i < n
  pub cycles : (i : ℕ) → i < count → mark_cycle bytes at i < n
  pub grades : (i : ℕ) → i < count → InRange 1 4 (mark_grade bytes at i)
  pub room : mark_table_size ≤ length table
  pub blank : (i : ℕ) → i < mark_table_size → get_or table i 0 ≡ 0

-- a marking laid out in bytes: that of (s, e) at s·64 + e; every other byte is as it was
pub record MarksLaid (marks : ℕ → ℕ → ℕ) (n : ℕ) (entry exit : List ℕ) : Type 0 where
  pub same_length : length exit ≡ length entry
  pub mark : (s e : ℕ) → s < n → e < n → get_or exit (s * 64 + e) 0 ≡ marks s e
  pub other : (i : ℕ) → ((s e : ℕ) → s < n → e < n → i ≡ s * 64 + e → ⊥) → get_or exit i 0 ≡ get_or entry i 0

-- the marks of a section are good, and laid out; or one is not, and only the length is known
abbrev pub MarksAnswer : Morphism → List ℕ → ℕ → ℕ → List ℕ → List ℕ → Result (Unit {0}) Fault → Type 0
MarksAnswer m bytes at count entry exit (Ok u) = MarksLaid (grade_among bytes at count) m.size entry exit
MarksAnswer m bytes at count entry exit (Err f) = length exit ≡ length entry

-- Whether a marking is strong, decided in scratch: what is asked for and what is answered. Assumes nothing.
use Rattle.std.specs.Prelude.{ℕ, ◌≤◌, ◌<◌, ◌≡◌, Bool, true, false, List, length, get_or}
use Rattle.theory.specs.Rules.{Morphism, Lawful, Marking, AllReached}
use Rattle.theory.specs.Grades.{StrongMarking}
use Rattle.theory.proofs.Gradings.{GradedMarks}
use Rattle.theory.proofs.ClosureGrades.{closure_grade}
use Rattle.scratch.specs.Map.{search_end, second_base, marks_from, MarkingAt}
use Rattle.formats.specs.RuleChecks.{scratch_size}

-- the marks of a good rule, in the table that begins at a byte, whatever stands elsewhere
pub record DecideNeeds (m : Morphism) (base : ℕ) (scratch : List ℕ) : Type 0 where
  pub lawful : Lawful m
  pub reached : AllReached m
  pub graded : GradedMarks m (marks_from scratch base)
  pub room : scratch_size ≤ length scratch

-- yes exactly if strong
abbrev pub StrongIf : Morphism → Marking → Bool → Type 0
StrongIf m marks true = StrongMarking m marks
StrongIf m marks false = StrongMarking m marks → ⊥

-- the verdict; the marks and the bytes behind those that the search uses are as they were, and the second table holds the closure
pub record Decided (m : Morphism) (entry exit : List ℕ) (answer : Bool) : Type 0 where
  pub same_length : length exit ≡ length entry
  pub decision : (marks : Marking) → GradedMarks m marks → MarkingAt m.size marks entry 0 → StrongIf m marks answer
  pub closure : (marks : Marking) → GradedMarks m marks → MarkingAt m.size marks entry 0 → MarkingAt m.size (closure_grade m marks) exit second_base
  pub marks : (i : ℕ) → i < second_base → get_or exit i 0 ≡ get_or entry i 0
  pub behind : (i : ℕ) → search_end ≤ i → get_or exit i 0 ≡ get_or entry i 0

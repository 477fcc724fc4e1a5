-- The closure of a rule's marks under conjugacy, laid out as a second table of marks behind the first: the highest grade of each pair's
-- conjugates. Assumes nothing.
use Rattle.std.specs.Prelude.{ℕ, ◌+◌, ◌*◌, ◌≤◌, ◌<◌, ◌≡◌, Bool, true, false, List, length, get_or}
use Rattle.theory.specs.Rules.{Morphism, Marking}
use Rattle.theory.proofs.Gradings.{GradedMarks}
use Rattle.theory.proofs.ClosureGrades.{closure_grade}
use Rattle.scratch.specs.Map.{second_base, tables_end, marks_from, MarkingAt}

-- the marks of a rule in the first table, and a second table with no marks yet
pub record ClosureRoom (m : Morphism) (scratch : List ℕ) : Type 0 where
  pub room : tables_end ≤ length scratch
  pub blank : (i : ℕ) → second_base ≤ i → i < tables_end → get_or scratch i 0 ≡ 0
  pub graded : GradedMarks m (marks_from scratch 0)

-- the second table has the closure of the first; no byte has changed but those of pairs of elements there
pub record ClosureLaid (m : Morphism) (entry exit : List ℕ) : Type 0 where
  pub same_length : length exit ≡ length entry
  pub closure : MarkingAt m.size (closure_grade m (marks_from entry 0)) exit second_base
  pub before : (i : ℕ) → i < second_base → get_or exit i 0 ≡ get_or entry i 0
  pub after : (i : ℕ) → tables_end ≤ i → get_or exit i 0 ≡ get_or entry i 0
  pub between : (i : ℕ) → ((s e : ℕ) → s < m.size → e < m.size → i ≡ second_base + (s * 64 + e) → ⊥) → get_or exit i 0 ≡ get_or entry i 0

-- no pair has a higher grade in the closure
pub record ClosedMarks (m : Morphism) (marks : Marking) : Type 0 where
  pub closed : (s e : ℕ) → s < m.size → e < m.size → closure_grade m marks s e ≤ marks s e

-- a pair that has
pub record UnclosedMarks (m : Morphism) (marks : Marking) : Type 0 where
  pub s : ℕ
  pub e : ℕ
  pub s_inside : s < m.size
  pub e_inside : e < m.size
  pub higher : marks s e < closure_grade m marks s e

-- whether the marks are closed at every level
abbrev pub ClosedAnswer : Morphism → Marking → Bool → Type 0
ClosedAnswer m marks true = ClosedMarks m marks
ClosedAnswer m marks false = UnclosedMarks m marks

-- the closure is laid out, and the answer says whether the marks are closed
pub record ClosureAnswer (m : Morphism) (entry exit : List ℕ) (answer : Bool) : Type 0 where
  pub laid : ClosureLaid m entry exit
  pub answered : ClosedAnswer m (marks_from entry 0) answer

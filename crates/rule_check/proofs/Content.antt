-- The counts that a layout hands on, and what the checks of the contents say in terms of them. Assumes nothing.
use Prim.Native.Nat.{ℕ, ◌+◌, ◌*◌, ◌≤◌, ◌<◌}
use mathlib.Core.Path.{◌≡◌, sym, ap, ◌∙◌, subst}
use mathlib.Core.List.{List}
use native.Mathlib.Omega.{arith}
use native.Mathlib.Nat.{mul-le-mul}
use lib.ListN.{length, drop}
use Rattle.std.specs.Prelude.{Result, Ok, Err}
use Rattle.answer.specs.declared.Fault.{Fault}
use Rattle.answer.specs.Checks.{passed, FirstFailure}
use Rattle.theory.specs.Rules.{Morphism}
use Rattle.formats.proofs.Tables.{Table}
use Rattle.formats.specs.Table.{morphism_at}
use Rattle.formats.specs.Sections.{InRange}
use Rattle.formats.specs.RuleFile.{elements_of, marks_at, marks_of, rule_end, morphism_of, mark_width, mark_start, mark_cycle, mark_grade, grade_among, marks_in, marking_of}
use Rattle.formats.specs.RuleChecks.{layout_checks, table_checks, mark_checks, content_checks}
use Rattle.rule_layout.specs.declared.Shape.{Shape}
use Rattle.rule_layout.specs.Answers.{LayoutPassed}
use Rattle.rule_layout.proofs.CountsRead.{shape_marks_at, shape_end}
use Rattle.rule_marks.specs.Faults.{FaultAnswer, MarksRoom, MarksLaid, MarksAnswer}
use Rattle.rule_check.specs.Answers.{ContentAnswer, BlankMarks}
use Rattle.rule_check.proofs.Faults.{marks_decide}
use Rattle.formats.proofs.SectionsPassed.{size_small, letters_small, marks_small, end_inside, table_of, starts_below, cycles_below, grades_within}

module _ (bytes : List ℕ) (shape : Shape) (p : LayoutPassed bytes shape) where
  abbrev n : ℕ
  n = shape.elements

  abbrev k : ℕ
  k = shape.letters

  abbrev count : ℕ
  count = shape.marks

  all : FirstFailure (layout_checks 1 bytes) passed
  all = p.refusal 1

  pub n_small : n ≤ 64
  n_small = omega (arith, size_small bytes all, p.shape_is.elements)

  pub square_small : n * n ≤ 4096
  square_small = mul-le-mul n_small n_small

  pub k_small : k ≤ 16
  k_small = omega (arith, letters_small bytes all, p.shape_is.letters)

  pub count_small : count ≤ 4096
  count_small = omega (arith, marks_small bytes all, p.shape_is.marks)

  -- where the marks' section stands
  pub marks_at_is : 1 + n * n + (1 + k) ≡ marks_at bytes
  marks_at_is = shape_marks_at p.shape_is

  -- and where it ends
  pub end_is : 1 + n * n + (1 + k) + (2 + mark_width * count) ≡ rule_end bytes
  end_is = shape_end p.shape_is

  pub end_in : 1 + n * n + (1 + k) + (2 + mark_width * count) ≤ length bytes
  end_in = omega (arith, end_inside bytes all, end_is)

  -- the file's table, by the counts that were read
  pub table_is : Table bytes n k
  table_is =
      subst (λ (x : ℕ). Table bytes x k) (sym p.shape_is.elements)
      (subst (λ (x : ℕ). Table bytes (elements_of bytes) x) (sym p.shape_is.letters) (table_of bytes all))

  morphism_is : morphism_at bytes n k ≡ morphism_of bytes
  morphism_is = ap (λ (x : ℕ). morphism_at bytes x k) p.shape_is.elements ∙ ap (morphism_at bytes (elements_of bytes)) p.shape_is.letters

  -- room for the marks where none is laid out yet
  pub marks_room : {scratch : List ℕ} → BlankMarks scratch → MarksRoom bytes (1 + n * n + (1 + k)) count n scratch
  marks_room b = record {
    long = end_in;
    starts = λ i h. here (λ (at m : ℕ). mark_start bytes at i < m) (starts_below bytes all i (omega (arith, p.shape_is.marks)));
    cycles = λ i h. here (λ (at m : ℕ). mark_cycle bytes at i < m) (cycles_below bytes all i (omega (arith, p.shape_is.marks)));
    grades = λ i h.
        subst (λ (at : ℕ). InRange 1 4 (mark_grade bytes at i)) (sym marks_at_is) (grades_within bytes all i (omega (arith, p.shape_is.marks)));
    room = b.room;
    blank = b.blank;
  }
    where
      here : (P : ℕ → ℕ → Type 0) → P (marks_at bytes) (elements_of bytes) → P (1 + n * n + (1 + k)) n
      here P h = subst (λ (x : ℕ). P x n) (sym marks_at_is) (subst (λ (x : ℕ). P (marks_at bytes) x) (sym p.shape_is.elements) h)

  -- what is said of the counts that were read is said of the file
  pub of_table : (answer : Result (Unit {0}) Fault) → FaultAnswer (λ input. table_checks input (morphism_at bytes n k)) answer → FaultAnswer (λ input. table_checks input (morphism_of bytes)) answer
  of_table answer f = subst (λ (m : Morphism). FaultAnswer (λ input. table_checks input m) answer) morphism_is f

  pub of_marks : (answer : Result (Unit {0}) Fault) → FaultAnswer (λ input. mark_checks input (morphism_at bytes n k) bytes (1 + n * n + (1 + k)) 0 count) answer
      → FaultAnswer (λ input. mark_checks input (morphism_of bytes) bytes (marks_at bytes) 0 (marks_of bytes)) answer
  of_marks answer f =
      subst (λ (m : Morphism). FaultAnswer (λ input. mark_checks input m bytes (marks_at bytes) 0 (marks_of bytes)) answer) morphism_is
      (subst (λ (x : ℕ). FaultAnswer (λ input. mark_checks input (morphism_at bytes n k) bytes x 0 (marks_of bytes)) answer) marks_at_is
      (subst (λ (x : ℕ). FaultAnswer (λ input. mark_checks input (morphism_at bytes n k) bytes (1 + n * n + (1 + k)) 0 x) answer) p.shape_is.marks f))

  pub of_laid : {entry exit : List ℕ} → MarksLaid (grade_among bytes (1 + n * n + (1 + k)) count) n entry exit → MarksLaid (marking_of bytes) (elements_of bytes) entry exit
  unfolding marks_in marks_of
  of_laid {entry} {exit} l =
      subst (λ (x : ℕ). MarksLaid (marking_of bytes) x entry exit) p.shape_is.elements
      (subst (λ (x : ℕ). MarksLaid (grade_among bytes (marks_at bytes) x) n entry exit) p.shape_is.marks
      (subst (λ (x : ℕ). MarksLaid (grade_among bytes x count) n entry exit) marks_at_is l))

module _ (bytes : List ℕ) (shape : Shape) (p : LayoutPassed bytes shape) where
  -- after a good table the marks decide
  pub marks_answer : length (drop (1 + shape.elements * shape.elements + (1 + shape.letters) + (2 + mark_width * shape.marks)) bytes) ≤ 0
      → ((input : ℕ) → FirstFailure (table_checks input (morphism_at bytes shape.elements shape.letters)) passed) → (answer : Result (Unit {0}) Fault)
      → FaultAnswer (λ input. mark_checks input (morphism_at bytes shape.elements shape.letters) bytes (1 + shape.elements * shape.elements + (1 + shape.letters)) 0 shape.marks) answer
      → FaultAnswer (λ input. content_checks input bytes) answer
  marks_answer h table (Ok u) f = marks_decide bytes (end_is bytes shape p) h (of_table bytes shape p (Ok tt) table) (of_marks bytes shape p (Ok u) f)
  marks_answer h table (Err r) f = marks_decide bytes (end_is bytes shape p) h (of_table bytes shape p (Ok tt) table) (of_marks bytes shape p (Err r) f)

  -- and good marks are laid out
  pub marks_laid : (entry exit : List ℕ) (answer : Result (Unit {0}) Fault)
      → MarksAnswer (morphism_at bytes shape.elements shape.letters) bytes (1 + shape.elements * shape.elements + (1 + shape.letters)) shape.marks entry exit answer
      → ContentAnswer bytes entry exit answer
  marks_laid entry exit (Ok u) l = of_laid bytes shape p l
  marks_laid entry exit (Err r) l = l

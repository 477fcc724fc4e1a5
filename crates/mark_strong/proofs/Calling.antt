-- A checked rule whose strength is to be decided: what scratch holds, and what the verdict says of the file. Assumes nothing.
use Prim.Native.Nat.{ℕ, ◌+◌, ◌*◌, ◌≤◌}
use mathlib.Core.Path.{◌≡◌, sym, ap, ◌∙◌, subst}
use mathlib.Core.Bool.{Bool, true}
use mathlib.Core.List.{List}
use native.Mathlib.Omega.{arith}
use lib.ListN.{length, get_or, replicate}
use Rattle.theory.specs.Rules.{Morphism, Lawful, AllReached}
use Rattle.theory.specs.Grades.{StrongMarking}
use Rattle.theory.proofs.Gradings.{GradedMarks}
use Rattle.theory.proofs.ClosureGrades.{closure_grade}
use Rattle.formats.proofs.Tables.{Table}
use Rattle.formats.specs.Table.{morphism_at}
use Rattle.formats.specs.RuleFile.{elements_of, morphism_of, marking_of}
use Rattle.rule_layout.specs.declared.Shape.{Shape}
use Rattle.rule_layout.specs.Answers.{IsShape}
use Rattle.std.specs.Prelude.{Ok}
use Rattle.rule_check.specs.Answers.{CheckPromise}
use Rattle.formats.specs.Calls.{after_call}
use Rattle.formats.proofs.GoodRule.{graded_marks, GoodRule, scratch_long, called_good}
use Rattle.rule_check.proofs.Calls.{zeros_left, checked_length, shape_morphism, shape_table}
use Rattle.scratch.specs.Map.{second_base, marks_from, MarkingAt}
use Rattle.mark_closure.proofs.Agreement.{graded_agrees}
use Rattle.mark_strong.specs.Deciding.{DecideNeeds, StrongIf, Decided}
use Rattle.formats.specs.RuleChecks.{scratch_size}

-- a good rule by the counts that were read of it
module _ {bytes : List ℕ} {shape : Shape} (good : GoodRule bytes) (is : IsShape bytes shape) where
  pub shape_lawful : Lawful (morphism_at bytes shape.elements shape.letters)
  shape_lawful = subst Lawful (sym (shape_morphism is)) good.lawful

  pub shape_reached : AllReached (morphism_at bytes shape.elements shape.letters)
  shape_reached = subst AllReached (sym (shape_morphism is)) good.reached

  pub shape_graded : GradedMarks (morphism_at bytes shape.elements shape.letters) (marking_of bytes)
  shape_graded = subst (λ (m : Morphism). GradedMarks m (marking_of bytes)) (sym (shape_morphism is)) (graded_marks good)

  -- its marks stand in scratch, in the table that begins at a byte
  pub shape_needs : {scratch : List ℕ} {base : ℕ} → MarkingAt shape.elements (marking_of bytes) scratch base → scratch_size ≤ length scratch
      → DecideNeeds (morphism_at bytes shape.elements shape.letters) base scratch
  shape_needs {scratch} {base} stand room = record {
    lawful = shape_lawful;
    reached = shape_reached;
    graded = graded_agrees shape_lawful (marking_of bytes) (marks_from scratch base) stand.same shape_graded;
    room = room;
  }

module _ (input : ℕ) (bytes entry : List ℕ) {shape : Shape} {mid : List ℕ} (p : CheckPromise input bytes entry mid (Ok shape)) where
  good : GoodRule bytes
  good = called_good input bytes entry p.refusal

  pub checked_table : Table bytes shape.elements shape.letters
  checked_table = shape_table p.scratch.shape_is good.table

  pub checked_lawful : Lawful (morphism_at bytes shape.elements shape.letters)
  checked_lawful = shape_lawful good p.scratch.shape_is

  pub checked_reached : AllReached (morphism_at bytes shape.elements shape.letters)
  checked_reached = shape_reached good p.scratch.shape_is

  pub checked_graded : GradedMarks (morphism_at bytes shape.elements shape.letters) (marking_of bytes)
  checked_graded = shape_graded good p.scratch.shape_is

  -- the marks of the file stand at the front of scratch
  pub marks_stand : MarkingAt shape.elements (marking_of bytes) mid 0
  unfolding marks_from
  marks_stand = record {
    same = λ s e hs he.
        sym (ap (λ (x : ℕ). get_or mid x 0) (let z : 0 + (s * 64 + e) ≡ s * 64 + e = omega arith in z) ∙ p.scratch.mark s e (omega (arith, p.scratch.shape_is.elements)) (omega (arith, p.scratch.shape_is.elements)));
  }

  pub checked_room : scratch_size ≤ length mid
  checked_room = omega (arith, scratch_long input bytes entry p.refusal, checked_length p.scratch)

  pub decide_place : DecideNeeds (morphism_at bytes shape.elements shape.letters) 0 mid
  decide_place = shape_needs good p.scratch.shape_is marks_stand checked_room

  module _ {exit : List ℕ} {answer : Bool} (d : Decided (morphism_at bytes shape.elements shape.letters) mid exit answer) where
    -- the verdict on the file
    pub decided_file : StrongIf (morphism_of bytes) (marking_of bytes) answer
    decided_file = subst (λ (m : Morphism). StrongIf m (marking_of bytes) answer) (shape_morphism p.scratch.shape_is) (d.decision (marking_of bytes) checked_graded marks_stand)

    pub decided_strong : answer ≡ true → StrongMarking (morphism_of bytes) (marking_of bytes)
    decided_strong e = subst (StrongIf (morphism_of bytes) (marking_of bytes)) e decided_file

    -- the closure of the file's marks stands in scratch
    pub closure_stands : MarkingAt (elements_of bytes) (closure_grade (morphism_of bytes) (marking_of bytes)) exit second_base
    closure_stands =
        subst (λ (m : Morphism). MarkingAt m.size (closure_grade m (marking_of bytes)) exit second_base) (shape_morphism p.scratch.shape_is)
        (d.closure (marking_of bytes) checked_graded marks_stand)

    pub decided_room : scratch_size ≤ length exit
    decided_room = omega (arith, checked_room, d.same_length)

    pub decided_left : (was end : List ℕ) → length was ≡ length exit → end ≡ replicate (length was) 0 → end ≡ after_call entry
    decided_left was end e z = zeros_left input bytes entry p.refusal was end (e ∙ d.same_length ∙ checked_length p.scratch) z

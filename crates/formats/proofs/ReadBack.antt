-- What is written reads back: the file of a lawful rule whose elements are all reached and whose marks are linked passes every
-- check, and the bytes mean the rule that was written. Assumes nothing.
use Prim.Native.Nat.{ℕ, zero, suc, ◌+◌, ◌≤◌, ◌<◌}
use mathlib.Core.Path.{sym, ap, subst₂, ◌∙◌}
use mathlib.Core.List.{List}
use native.Mathlib.Omega.{arith}
use lib.ListN.{length}
use Rattle.answer.specs.Checks.{passed, FirstFailure}
use Rattle.answer.proofs.Order.{first_passes, none_left, passed_before}
use Rattle.theory.specs.Rules.{Morphism, Marking, Lawful, AllReached, level}
use Rattle.theory.specs.Pairs.{Linked, LinkedOnly}
use Rattle.formats.specs.Table.{product_at, image_at}
use Rattle.formats.proofs.Tables.{all_associate_none}
use Rattle.formats.specs.Sections.{section_checks}
use Rattle.formats.specs.RuleFile.{letters_at, marks_at, marks_of, mark_start, mark_cycle, morphism_of, letters_section, marks_section}
use Rattle.formats.specs.RuleChecks.{layout_checks, mark_checks, rule_checks, RepeatedAt}
use Rattle.formats.specs.ReadBack.{ReadsBack, FileShape, WrittenRule}
use Rattle.formats.specs.WrittenFile.{mark_numbers, file_of, FitsFormat, FitsGrades}
use Rattle.formats.proofs.Agree.{Agree, agree_lawful, agree_linked, agree_reached}
use Rattle.formats.proofs.Stands.{elements_are, letters_are, letters_from, marks_from_lem, marks_are, ends_there, product_stands, image_stands, start_stands, cycle_stands}
use Rattle.formats.proofs.Marks.{number_marked, marking_stands, marks_apart}
use Rattle.formats.proofs.GoodSections.{NamesElements, lawful_names, elements_pass, letters_pass, marks_pass, file_short, file_over}
use Rattle.formats.specs.Front.{AtFront}

module _ (m : Morphism) (marks : Marking) where
  -- a written rule reads back
  pub reads_back : ReadsBack m marks (file_of m marks)
  reads_back = record {
    elements = elements_are m marks;
    letters = letters_are m marks;
    products = product_stands m marks;
    images = image_stands m marks;
    marking = marking_stands m marks;
  }

  -- a written rule has the shape of a file
  pub file_shape : FitsFormat m → FitsGrades m marks → NamesElements m → FileShape (file_of m marks)
  file_shape fits graded names = record { ends = ends_there m marks; short = file_short m marks fits; small = file_over m marks fits graded names }

-- the morphism that the bytes mean agrees with the one that was written
pub reads_agree : {m : Morphism} {marks : Marking} {bytes : List ℕ} → ReadsBack m marks bytes → Agree m (morphism_of bytes)
reads_agree {m} {marks} {bytes} r = record {
  same_size = r.elements;
  same_letters = r.letters;
  same_product = λ a b ha hb. ap (λ (n : ℕ). product_at bytes n a b) r.elements ∙ r.products a b ha hb;
  same_image = λ a h. ap (λ (n : ℕ). image_at bytes n a) r.elements ∙ r.images a h;
}

module _ (m : Morphism) (marks : Marking) (fits : FitsFormat m) (graded : FitsGrades m marks) (law : Lawful m) (linked : LinkedOnly m (level 1 marks)) where
  agrees : Agree m (morphism_of (file_of m marks))
  agrees = reads_agree (reads_back m marks)

  -- each mark is linked, and none stood before
  mark_linked : (j : ℕ) → j < length (mark_numbers m marks)
      → Linked (morphism_of (file_of m marks))
      (mark_start (file_of m marks) (marks_at (file_of m marks)) j) (mark_cycle (file_of m marks) (marks_at (file_of m marks)) j)
  unfolding level
  mark_linked j h =
      let p = number_marked m marks fits.some j h in
      rw (start_stands m marks j h, cycle_stands m marks j h)
      (agree_linked agrees (linked.linked _ _ p.start_inside p.cycle_inside p.has_mark))

  mark_new : (j place : ℕ) → j < length (mark_numbers m marks) → RepeatedAt (file_of m marks) (marks_at (file_of m marks)) j place → ⊥
  mark_new j place h r =
      let h' : r.earlier < length (mark_numbers m marks) = omega (arith, r.before) in
      marks_apart m marks r.earlier j r.before h
      (sym (start_stands m marks r.earlier h') ∙ r.same_start ∙ start_stands m marks j h)
      (sym (cycle_stands m marks r.earlier h') ∙ r.same_cycle ∙ cycle_stands m marks j h)

  -- checks 7 and 8, pair by pair
  marks_checked : (input j count : ℕ) → j + count ≤ length (mark_numbers m marks)
      → FirstFailure (mark_checks input (morphism_of (file_of m marks)) (file_of m marks) (marks_at (file_of m marks)) j count) passed
  unfolding mark_checks
  marks_checked input j zero h = none_left
  marks_checked input j (suc count) h =
      first_passes (record { nowhere = λ place u. u.unlinked (mark_linked j (omega arith)) })
      (first_passes (record { nowhere = λ place r. mark_new j place (omega arith) r })
      (marks_checked input (suc j) count (omega arith)))

  -- checks 1 to 3
  layout_checked : (input : ℕ) → FirstFailure (layout_checks input (file_of m marks)) passed
  layout_checked input =
      passed_before _ _ (elements_pass m marks fits (lawful_names law) input 0)
      (passed_before _ _
      (subst₂ (λ (n : ℕ) (l : List ℕ). FirstFailure (section_checks (letters_section n) input (letters_at (file_of m marks)) l) passed)
      (sym (elements_are m marks)) (sym (letters_from m marks))
      (letters_pass m marks fits (lawful_names law) input (letters_at (file_of m marks))))
      (subst₂ (λ (n : ℕ) (l : List ℕ). FirstFailure (section_checks (marks_section n) input (marks_at (file_of m marks)) l) passed)
      (sym (elements_are m marks)) (sym (marks_from_lem m marks))
      (marks_pass m marks fits graded input (marks_at (file_of m marks)))))

  -- a written rule passes every check, whatever its number among the inputs: 1 to 3, then 4, 5, 6, then 7 and 8
  pub file_passes : AllReached m → (input : ℕ) → FirstFailure (rule_checks input (file_of m marks)) passed
  unfolding rule_checks
  file_passes reached input =
      passed_before _ _ (layout_checked input)
      (first_passes (record { nowhere = λ place f. omega (arith, f.longer, ends_there m marks) })
      (first_passes (record { nowhere = λ place f. all_associate_none (record { associate = (agree_lawful agrees law).associative }) f })
      (first_passes (record { nowhere = λ place f. f.no_word ((agree_reached agrees law reached).word_of place f.inside) })
      (marks_checked input 0 (marks_of (file_of m marks)) (omega (arith, marks_are m marks))))))

-- so a written rule whose marks are 1 keeps what its file promises
pub written_rule : (m : Morphism) (marks : Marking) {entry exit : List ℕ} {r : ℕ} → FitsFormat m → FitsGrades m marks → Lawful m → LinkedOnly m (level 1 marks)
    → AllReached m → AtFront (file_of m marks) entry exit r → WrittenRule m marks entry exit r
written_rule m marks fits grades law linked reached w = record {
  front = w;
  passes = file_passes m marks fits grades law linked reached;
  reads_back = reads_back m marks;
  shape = file_shape m marks fits grades (lawful_names law);
}

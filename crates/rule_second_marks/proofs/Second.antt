-- What each way through a second marks section shows. Assumes nothing.
use Rattle.std.specs.Prelude.{Result, Ok, Err}
use Rattle.answer.specs.declared.Fault.{Fault}
use Prim.Native.Nat.{ℕ, ◌+◌, ◌*◌, ◌≤◌, ◌<◌}
use mathlib.Core.Path.{◌≡◌, ap, ◌∙◌, subst}
use mathlib.Core.List.{List, ◌∷◌}
use native.Mathlib.Omega.{arith}
use lib.ListN.{length, drop, length-drop}
use Rattle.answer.specs.declared.Refusal.TheVariants.{TrailingBytes}
use Rattle.answer.specs.Checks.{Verdict, passed, numbered, refused, FirstFailure}
use Rattle.answer.proofs.Order.{first_passes, first_fails, refused_before, passed_before}
use Rattle.formats.specs.Sections.{two_bytes, section_checks}
use Rattle.sections.specs.Answers.{SectionPassed}
use Rattle.formats.proofs.SectionList.{GoodAt, good_at}
use Rattle.formats.proofs.MarkEntries.{starts_below, cycles_below, grades_within}
use Rattle.theory.specs.Rules.{Morphism}
use Rattle.formats.specs.Table.{morphism_at}
use Rattle.formats.specs.RuleFile.{elements_of, letters_of, morphism_of, mark_width, marks_section, grade_among, marks_in}
use Rattle.formats.specs.RuleChecks.{trailing_check, mark_checks, second_marks_checks}
use Rattle.rule_marks.specs.Faults.{FaultAnswer, MarksRoom, MarksLaid, MarksAnswer}
use Rattle.rule_second_marks.specs.SecondMarks.{MarksSpace, SecondAnswer}

module _ (n : ℕ) {c : ℕ} {bytes : List ℕ} (p : SectionPassed (marks_section n) 0 bytes c) where
  good : GoodAt (marks_section n) bytes 0
  good = good_at (marks_section n) 1 0 bytes (p.refusal 1)

  pub count_small : c ≤ 4096
  count_small = omega (arith, p.is_count, good.within)

  pub end_inside : 2 + mark_width * c ≤ length bytes
  end_inside = omega (arith, p.is_count, good.inside)

  -- room for the marks in a blank table
  pub marks_room : {table : List ℕ} → MarksSpace table → MarksRoom bytes 0 c n table
  marks_room s = record {
    long = omega (arith, end_inside);
    starts = λ i h. starts_below good i (omega (arith, p.is_count));
    cycles = λ i h. cycles_below good i (omega (arith, p.is_count));
    grades = λ i h. grades_within n good i (omega (arith, p.is_count));
    room = s.room;
    blank = s.blank;
  }

module _ (rule bytes : List ℕ) {n k : ℕ} (en : n ≡ elements_of rule) (ek : k ≡ letters_of rule) where
  -- the count's own checks refuse
  pub second_cut : {number place : ℕ} → ((input : ℕ) → FirstFailure (section_checks (marks_section n) input 0 bytes) (numbered number input place))
      → (input : ℕ) → FirstFailure (second_marks_checks input rule bytes) (numbered number input place)
  unfolding second_marks_checks
  second_cut {number} {place} f input =
      refused_before _ _ (subst (λ (x : ℕ). FirstFailure (section_checks (marks_section x) input 0 bytes) (numbered number input place)) en (f input))

  module _ {c : ℕ} (p : SectionPassed (marks_section n) 0 bytes c) where
    after_section : (input : ℕ) {v : Verdict} → FirstFailure (trailing_check input (2 + mark_width * two_bytes bytes 0) bytes ∷ mark_checks input (morphism_of rule) bytes 0 0 (two_bytes bytes 0)) v
        → FirstFailure (second_marks_checks input rule bytes) v
    unfolding second_marks_checks
    after_section input f =
        passed_before _ _ (subst (λ (x : ℕ). FirstFailure (section_checks (marks_section x) input 0 bytes) passed) en (p.refusal input)) f

    -- bytes follow
    pub second_trailing : 0 < length (drop (2 + mark_width * c) bytes) → (input : ℕ) → FirstFailure (second_marks_checks input rule bytes) (refused TrailingBytes input (2 + mark_width * c))
    second_trailing h input =
        after_section input
        (first_fails (trailing_check input (2 + mark_width * two_bytes bytes 0) bytes)
        (record { longer = omega (arith, length-drop (2 + mark_width * c) bytes, p.is_count); is_place = ap (λ (x : ℕ). 2 + mark_width * x) p.is_count }))

    morphism_is : morphism_at rule n k ≡ morphism_of rule
    morphism_is = ap (λ (x : ℕ). morphism_at rule x k) en ∙ ap (morphism_at rule (elements_of rule)) ek

    moved : (input : ℕ) {v : Verdict} → length (drop (2 + mark_width * c) bytes) ≤ 0 → FirstFailure (mark_checks input (morphism_at rule n k) bytes 0 0 c) v
        → FirstFailure (second_marks_checks input rule bytes) v
    moved input {v} h f =
        after_section input
        (first_passes (record { nowhere = λ place t. omega (arith, length-drop (2 + mark_width * c) bytes, p.is_count, t.longer) })
        (subst (λ (x : ℕ). FirstFailure (mark_checks input (morphism_of rule) bytes 0 0 x) v) p.is_count
        (subst (λ (m : Morphism). FirstFailure (mark_checks input m bytes 0 0 c) v) morphism_is f)))

    -- the marks decide
    pub second_decides : length (drop (2 + mark_width * c) bytes) ≤ 0 → (answer : Result (Unit {0}) Fault) → FaultAnswer (λ input. mark_checks input (morphism_at rule n k) bytes 0 0 c) answer
        → FaultAnswer (λ input. second_marks_checks input rule bytes) answer
    second_decides h (Ok done) f = λ input. moved input h (f input)
    second_decides h (Err fault) f = λ input. moved input h (f input)

    -- and are laid out
    pub second_laid : (entry exit : List ℕ) (answer : Result (Unit {0}) Fault) → MarksAnswer (morphism_at rule n k) bytes 0 c entry exit answer → SecondAnswer bytes n entry exit answer
    unfolding marks_in
    second_laid entry exit (Ok done) l = subst (λ (x : ℕ). MarksLaid (grade_among bytes 0 x) n entry exit) p.is_count l
    second_laid entry exit (Err fault) l = l

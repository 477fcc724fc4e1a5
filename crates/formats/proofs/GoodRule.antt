-- What a rule file is once every check passes, for the calls that get one: a lawful table whose elements are all reached, and
-- marks that are linked, differ and have grades. Assumes nothing.
use Prim.Native.Nat.{ℕ, ◌≤◌, ◌<◌}
use mathlib.Core.Path.{◌≡◌, refl}
use mathlib.Core.List.{List}
use native.Mathlib.Omega.{arith}
use lib.ListN.{length}
use Rattle.answer.specs.Checks.{passed, FirstFailure}
use Rattle.answer.proofs.Order.{passed_first, passed_last, passes_head, passes_tail}
use Rattle.theory.specs.Rules.{Lawful, AllReached, level}
use Rattle.theory.specs.Pairs.{Linked, LinkedOnly}
use Rattle.theory.specs.Grades.{StrongMarking}
use Rattle.theory.proofs.Gradings.{GradedMarks}
use Rattle.theory.proofs.GradedStrength.{marking_strong_dec}
use Rattle.formats.specs.Sections.{InRange}
use Rattle.formats.specs.RuleFile.{elements_of, letters_of, marks_at, marks_of, rule_end, morphism_of, mark_start, mark_cycle, mark_grade, marking_of}
use Rattle.formats.specs.RuleChecks.{layout_checks, table_checks, content_checks, rule_checks, scratch_size}
use Rattle.formats.specs.Calls.{checked_checks}
use Rattle.formats.proofs.Tables.{Table, table_lawful}
use Rattle.formats.proofs.RuleSections.{rule_in_any}
use Rattle.formats.proofs.SectionsPassed.{letters_some, marks_small, end_inside, table_of, grades_within}
use Rattle.formats.proofs.TablePassed.{table_associates, table_reached}
use Rattle.formats.proofs.MarksPassed.{passed_marks, marking_linked, marking_at_most, GoodMarks}

-- a rule file that passes every check
pub record GoodRule (bytes : List ℕ) : Type 0 where
  -- 1 to 3: the sections are there, their counts in range, and their entries name elements
  pub table : Table bytes (elements_of bytes) (letters_of bytes)
  pub letters_some : 1 ≤ letters_of bytes
  pub marks_small : marks_of bytes ≤ 4096
  -- 3: "a grade byte .. outside 1 to 3 is refused" (document 02, Job 12)
  pub grades : (i : ℕ) → i < marks_of bytes → InRange 1 4 (mark_grade bytes (marks_at bytes) i)
  -- 4: nothing follows
  pub end : rule_end bytes ≡ length bytes
  -- 5 and 6
  pub lawful : Lawful (morphism_of bytes)
  pub reached : AllReached (morphism_of bytes)
  -- 7 and 8, by the marks in file order
  pub each_linked : (i : ℕ) → i < marks_of bytes → Linked (morphism_of bytes) (mark_start bytes (marks_at bytes) i) (mark_cycle bytes (marks_at bytes) i)
  pub distinct : (i j : ℕ) → i < j → j < marks_of bytes → mark_start bytes (marks_at bytes) i ≡ mark_start bytes (marks_at bytes) j
      → mark_cycle bytes (marks_at bytes) i ≡ mark_cycle bytes (marks_at bytes) j → ⊥
  -- 7, by the marked pairs
  pub linked : LinkedOnly (morphism_of bytes) (level 1 (marking_of bytes))

module _ (input : ℕ) (bytes : List ℕ) (all : FirstFailure (rule_checks input bytes) passed) where
  -- its sections pass, as those of a first input
  pub layout_passed : FirstFailure (layout_checks 1 bytes) passed
  unfolding rule_checks
  layout_passed = rule_in_any input bytes (passed_first (layout_checks input bytes) (content_checks input bytes) all) 1

  content_passed : FirstFailure (content_checks input bytes) passed
  unfolding rule_checks
  content_passed = passed_last (layout_checks input bytes) _ all

  table_passed : FirstFailure (table_checks input (morphism_of bytes)) passed
  table_passed = passed_first _ _ (passes_tail content_passed)

  marks_passed : GoodMarks (morphism_of bytes) bytes (marks_at bytes) (marks_of bytes)
  marks_passed =
      passed_marks input (marks_of bytes) (passed_last (table_checks input (morphism_of bytes)) _ (passes_tail content_passed))

  -- every check passes: the file is a good rule
  pub good_rule : GoodRule bytes
  unfolding marks_of
  good_rule =
      let h : rule_end bytes < length bytes → ⊥ = λ l. (passes_head content_passed).nowhere _ (record { longer = l; is_place = refl }) in
      let t = table_of bytes layout_passed in
      let law = table_lawful t (table_associates table_passed) in
      record {
        table = t;
        letters_some = letters_some bytes layout_passed;
        marks_small = marks_small bytes layout_passed;
        grades = grades_within bytes layout_passed;
        end = omega (arith, end_inside bytes layout_passed);
        lawful = law;
        reached = table_reached table_passed law;
        each_linked = λ i l. (marks_passed.good i l).linked;
        distinct = λ i j l b p q. (marks_passed.good j b).fresh i l p q;
        linked = marking_linked bytes (marks_at bytes) marks_passed;
      }

-- what a call knows of its scratch and its rule once both pass
module _ (input : ℕ) (bytes entry : List ℕ) (all : FirstFailure (checked_checks input bytes entry) passed) where
  -- scratch had its size
  pub scratch_long : scratch_size ≤ length entry
  scratch_long =
      let f : length entry < scratch_size → ⊥ = λ h. (passes_head all).nowhere 0 (record { short = h; is_place = refl }) in
      omega arith

  -- the rule is good
  pub called_good : GoodRule bytes
  called_good = good_rule input bytes (passes_tail all)

-- no pair of a good rule has a grade above the highest
pub marking_small : {bytes : List ℕ} → GoodRule bytes → (s e : ℕ) → marking_of bytes s e ≤ 3
unfolding marks_of
marking_small {bytes} good s e = marking_at_most bytes (marks_at bytes) good.grades s e

-- its marks are at most 3, and on linked pairs only
pub graded_marks : {bytes : List ℕ} → GoodRule bytes → GradedMarks (morphism_of bytes) (marking_of bytes)
graded_marks good = record { small = λ s e hs he. marking_small good s e; linked = good.linked }

-- a good rule that is not weak is strong, since strength is decided
pub strong_of : {bytes : List ℕ} → GoodRule bytes → ((StrongMarking (morphism_of bytes) (marking_of bytes) → ⊥) → ⊥) → StrongMarking (morphism_of bytes) (marking_of bytes)
strong_of {bytes} good h = go (marking_strong_dec good.lawful (graded_marks good) good.reached)
  where
    go : Dec (StrongMarking (morphism_of bytes) (marking_of bytes)) → StrongMarking (morphism_of bytes) (marking_of bytes)
    go (yes strong) = strong
    go (no weak) = absurd (h weak)

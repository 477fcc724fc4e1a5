-- A test that computes whether a rule file passes every check: its sections first, then its contents. Assumes nothing.
use Prim.Native.Nat.{ℕ, ◌+◌}
use mathlib.Core.Bool.{Bool, not, ◌&&◌}
use mathlib.Core.List.{List, ◌++◌}
use native.Mathlib.Omega.{arith}
use lib.Dec.{T, leb, ltb, eqb, leb→le}
use lib.ListN.{length, get_or, drop}
use mir.Facts.{ltb_yes, yes_eqb}
use Rattle.finite.proofs.Tests.{T_and, T_and_left, T_and_right, not_T}
use Rattle.finite.proofs.Search.{all_below, all_elim}
use Rattle.answer.specs.Checks.{Verdict, passed, FirstFailure}
use Rattle.answer.proofs.Order.{first_passes, passed_before, one_verdict}
use Rattle.theory.specs.Rules.{Lawful}
use Rattle.theory.proofs.Closure.{linked_test, linked_elim}
use Rattle.theory.proofs.ShortWords.{unreached}
use Rattle.theory.proofs.TableTests.{lawful_test, lawful_elim, reached_all}
use Rattle.formats.proofs.Tables.{all_associate_none}
use Rattle.formats.specs.Sections.{Section, InRange, count_bytes, count_at}
use Rattle.formats.proofs.Sections.{SectionGood, good_passes}
use Rattle.formats.specs.RuleFile.{elements_of, letters_at, marks_at, marks_of, rule_end, morphism_of, mark_start, mark_cycle, elements_section, letters_section, marks_section}
use Rattle.formats.specs.RuleChecks.{table_checks, mark_checks, rule_checks}
use Rattle.rule_marks.proofs.MarkOrder.{marks_pass}
use Rattle.formats.proofs.MarksPassed.{GoodMark}
use Rattle.formats.proofs.OneVerdict.{rule_single}
use Rattle.examples.specs.Examples.{ChecksTo}

-- ---- sections

-- a byte is in its range
unfoldable pub range_test : ℕ → ℕ → ℕ → Bool
range_test floor bound byte = leb floor byte && ltb byte bound

range_elim : (floor bound byte : ℕ) → T (range_test floor bound byte) → InRange floor bound byte
unfolding range_test
range_elim floor bound byte t = record { above = leb→le _ _ (T_and_left (leb floor byte) _ t); below = ltb_yes (T_and_right (leb floor byte) (ltb byte bound) t) }

-- the count is there and in its range, and the entries are there, each in its range
unfoldable pub section_test : Section → List ℕ → Bool
section_test s rest =
    let count = count_at s.width rest in
    leb (count_bytes s.width) (length rest)
    && (leb s.low count
    && (leb count s.high
    && (leb (count_bytes s.width + s.entries count) (length rest)
    && all_below (s.entries count) (λ i. range_test (s.floor count i) (s.bound count i) (get_or rest (count_bytes s.width + i) 0)))))

pub section_elim : (s : Section) (rest : List ℕ) → T (section_test s rest) → SectionGood s rest
unfolding section_test
section_elim s rest t =
    let count = count_at s.width rest in
    let good : ℕ → Bool = λ i. range_test (s.floor count i) (s.bound count i) (get_or rest (count_bytes s.width + i) 0) in
    let t₁ = T_and_right (leb (count_bytes s.width) (length rest)) _ t in
    let t₂ = T_and_right (leb s.low count) _ t₁ in
    let t₃ = T_and_right (leb count s.high) _ t₂ in
    record {
      count_present = leb→le _ _ (T_and_left (leb (count_bytes s.width) (length rest)) _ t);
      above = leb→le _ _ (T_and_left (leb s.low count) _ t₁);
      within = leb→le _ _ (T_and_left (leb count s.high) _ t₂);
      entries_present = leb→le _ _ (T_and_left (leb (count_bytes s.width + s.entries count) (length rest)) _ t₃);
      entries_good = λ i h. range_elim _ _ _
          (all_elim (s.entries count) good (T_and_right (leb (count_bytes s.width + s.entries count) (length rest)) _ t₃) i h);
    }

-- 1 to 3, and then 4
module _ (bytes : List ℕ) where
  abbrev letters_rest : List ℕ
  letters_rest = drop (letters_at bytes) bytes

  abbrev marks_rest : List ℕ
  marks_rest = drop (marks_at bytes) bytes

  unfoldable pub layout_test : Bool
  layout_test =
      section_test elements_section bytes
      && (section_test (letters_section (elements_of bytes)) letters_rest
      && (section_test (marks_section (elements_of bytes)) marks_rest && leb (length bytes) (rule_end bytes)))

  -- where they pass, the table and the marks decide
  pub after_layout : {v : Verdict} → T layout_test
      → FirstFailure (table_checks 1 (morphism_of bytes) ++ mark_checks 1 (morphism_of bytes) bytes (marks_at bytes) 0 (marks_of bytes)) v
      → FirstFailure (rule_checks 1 bytes) v
  unfolding layout_test rule_checks
  after_layout t f =
      let t₁ = T_and_right (section_test elements_section bytes) _ t in
      let t₂ = T_and_right (section_test (letters_section (elements_of bytes)) letters_rest) _ t₁ in
      let ends = leb→le (length bytes) (rule_end bytes) (T_and_right (section_test (marks_section (elements_of bytes)) marks_rest) _ t₂) in
      passed_before _ _
      (passed_before _ _ (good_passes elements_section 1 0 bytes (section_elim _ _ (T_and_left (section_test elements_section bytes) _ t)))
      (passed_before _ _
      (good_passes (letters_section (elements_of bytes)) 1 (letters_at bytes) letters_rest
      (section_elim _ _ (T_and_left (section_test (letters_section (elements_of bytes)) letters_rest) _ t₁)))
      (good_passes (marks_section (elements_of bytes)) 1 (marks_at bytes) marks_rest
      (section_elim _ _ (T_and_left (section_test (marks_section (elements_of bytes)) marks_rest) _ t₂)))))
      (first_passes (record { nowhere = λ place l. omega (arith, ends, l.longer) }) f)

  -- ---- contents

  -- the j-th mark is linked, and no earlier one is the same pair
  unfoldable pub same_marks : ℕ → ℕ → Bool
  same_marks j i =
      eqb (mark_start bytes (marks_at bytes) i) (mark_start bytes (marks_at bytes) j)
      && eqb (mark_cycle bytes (marks_at bytes) i) (mark_cycle bytes (marks_at bytes) j)

  unfoldable pub mark_test : ℕ → Bool
  mark_test j =
      linked_test (morphism_of bytes) (mark_start bytes (marks_at bytes) j) (mark_cycle bytes (marks_at bytes) j)
      && all_below j (λ i. not (same_marks j i))

  mark_elim : (j : ℕ) → T (mark_test j) → GoodMark (morphism_of bytes) bytes (marks_at bytes) j
  unfolding mark_test same_marks
  mark_elim j t =
      let link = linked_test (morphism_of bytes) (mark_start bytes (marks_at bytes) j) (mark_cycle bytes (marks_at bytes) j) in
      record {
        linked = linked_elim _ _ _ (T_and_left link _ t);
        fresh = λ i h p q. not_T (same_marks j i) (all_elim j (λ i. not (same_marks j i)) (T_and_right link _ t) i h)
            (T_and (eqb (mark_start bytes (marks_at bytes) i) (mark_start bytes (marks_at bytes) j)) _ (yes_eqb p) (yes_eqb q));
      }

  -- every check
  unfoldable pub rule_test : Bool
  rule_test =
      layout_test
      && (lawful_test (morphism_of bytes)
      && (leb (elements_of bytes) (unreached (morphism_of bytes)) && all_below (marks_of bytes) mark_test))

  pub rule_passes : T rule_test → FirstFailure (rule_checks 1 bytes) passed
  unfolding rule_test
  rule_passes t =
      let t₁ = T_and_right layout_test _ t in
      let t₂ = T_and_right (lawful_test (morphism_of bytes)) _ t₁ in
      let law : Lawful (morphism_of bytes) = lawful_elim _ (T_and_left (lawful_test (morphism_of bytes)) _ t₁) in
      let reached = reached_all law (T_and_left (leb (elements_of bytes) (unreached (morphism_of bytes))) _ t₂) in
      let marks = T_and_right (leb (elements_of bytes) (unreached (morphism_of bytes))) _ t₂ in
      after_layout (T_and_left layout_test _ t)
      (first_passes (record { nowhere = λ place f. all_associate_none (record { associate = law.associative }) f })
      (first_passes (record { nowhere = λ place f. f.no_word (reached.word_of place f.inside) })
      (marks_pass 1 (marks_of bytes) (record { good = λ j h. mark_elim j (all_elim (marks_of bytes) mark_test marks j h) }))))

-- a verdict of the checks is the only one
pub checks_to : {bytes : List ℕ} {v : Verdict} → FirstFailure (rule_checks 1 bytes) v → ChecksTo bytes v
checks_to {bytes} f = record { refusal = f; only = λ w g. one_verdict (rule_single 1 bytes) g f }

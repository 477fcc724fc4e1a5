-- The three sections of a rule file, read one after the other. Assumes nothing.
use Rattle.std.proofs.Common.{refl, ℕ, ◌+◌, ◌*◌, ◌≤◌, List, length}
use native.Mathlib.Nat.{zero-add}
use Rattle.formats.specs.RuleFile.{elements_section, letters_section, marks_section}
use Rattle.formats.specs.RuleChecks.{layout_checks}
use Rattle.formats.proofs.SectionList.{last, rest_from}
use Rattle.formats.proofs.RuleSections.{after_elements, rule_sections, rule_list}
use Rattle.sections.specs.Answers.{SectionPassed}
use Rattle.sections.proofs.HandedOn.{HandedOn, handed_whole, handed_next, handed_last, handed_count, handed_long}
use Rattle.rule_layout.specs.Answers.{LayoutPassed}
use Rattle.rule_layout.proofs.CountsRead.{shape_read}

-- no section was read yet
pub whole : (bytes : List ℕ) → HandedOn (λ input. layout_checks input bytes) bytes rule_sections 0 bytes
whole bytes = handed_whole rule_sections bytes (λ input. rule_list input bytes)

-- the elements were read
module _ {bytes : List ℕ} {n : ℕ} (elements : SectionPassed elements_section 0 bytes n) where
  pub elements_long : 1 + n * n ≤ length bytes
  elements_long = handed_long (whole bytes) elements

  pub after_elements_read : HandedOn (λ input. layout_checks input bytes) bytes (after_elements n) (1 + n * n) (rest_from bytes (1 + n * n))
  after_elements_read = handed_next (whole bytes) elements (zero-add _)

  -- and the letters
  module _ {k : ℕ} (letters : SectionPassed (letters_section n) (1 + n * n) (rest_from bytes (1 + n * n)) k) where
    pub letters_long : 1 + k ≤ length (rest_from bytes (1 + n * n))
    letters_long = handed_long after_elements_read letters

    pub after_letters_read : HandedOn (λ input. layout_checks input bytes) bytes (last (marks_section n)) (1 + n * n + (1 + k))
        (rest_from (rest_from bytes (1 + n * n)) (1 + k))
    after_letters_read = handed_next after_elements_read letters refl

    -- and the marks
    pub layout_read : {c : ℕ} → SectionPassed (marks_section n) (1 + n * n + (1 + k)) (rest_from (rest_from bytes (1 + n * n)) (1 + k)) c
        → LayoutPassed bytes (record { elements = n; letters = k; marks = c })
    layout_read marks = record {
      shape_is = shape_read bytes (handed_count (whole bytes) elements) (handed_count after_elements_read letters) (handed_count after_letters_read marks);
      refusal = handed_last after_letters_read marks;
    }

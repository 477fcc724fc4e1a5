-- Every check of a rule file, in document 01's order: "1 to 3 section by section .., then 4, 5 .., 6, then 7 before 8 pair by
-- pair". There is no check 9 (document 02, Job 10): a table that associates has what it asked for. Assumes nothing.
use Rattle.std.specs.Prelude.{ℕ, zero, suc, ◌+◌, ◌*◌, ◌<◌, ◌≡◌, List, [], ◌∷◌, ◌++◌, length, drop}
use Rattle.answer.specs.declared.Refusal.TheVariants.{TrailingBytes, NotAssociative, Unreachable, NotLinked, Duplicate, BufferTooShort}
use Rattle.answer.specs.Checks.{Check}
use Rattle.theory.specs.Rules.{Morphism}
use Rattle.theory.specs.Pairs.{Linked}
use Rattle.formats.specs.TableChecks.{NotAssociativeAt, UnreachedAt}
use Rattle.formats.specs.Sections.{two_bytes, section_checks}
use Rattle.formats.specs.RuleFile.{elements_of, letters_at, marks_at, marks_of, rule_end, morphism_of, mark_start, mark_cycle, mark_width, elements_section, letters_section, marks_section}

-- 4 "bytes follow the last section"; place "first such byte"
pub record TrailingAt (end : ℕ) (bytes : List ℕ) (place : ℕ) : Type 0 where
  pub longer : end < length bytes
  pub is_place : place ≡ end

-- 7 "a marked pair isn't linked", said of the i-th mark of the section at byte `at`; place "its first byte"
pub record UnlinkedAt (m : Morphism) (bytes : List ℕ) (at i place : ℕ) : Type 0 where
  pub unlinked : Linked m (mark_start bytes at i) (mark_cycle bytes at i) → ⊥
  pub is_place : place ≡ at + (2 + mark_width * i)

-- 8 "a pair or transition stands twice", said of the i-th mark as the later, and "A pair repeated with another grade is still 8"
-- (document 02, Job 12); place "first byte of the later"
pub record RepeatedAt (bytes : List ℕ) (at i place : ℕ) : Type 0 where
  pub earlier : ℕ
  pub before : earlier < i
  pub same_start : mark_start bytes at earlier ≡ mark_start bytes at i
  pub same_cycle : mark_cycle bytes at earlier ≡ mark_cycle bytes at i
  pub is_place : place ≡ at + (2 + mark_width * i)

-- "7 before 8 pair by pair": the count marks from the i-th on
unfoldable pub mark_checks : ℕ → Morphism → List ℕ → ℕ → ℕ → ℕ → List Check
mark_checks input m bytes at i zero = []
mark_checks input m bytes at i (suc count) =
    record { refusal = NotLinked; input = input; Fails = UnlinkedAt m bytes at i }
    ∷ record { refusal = Duplicate; input = input; Fails = RepeatedAt bytes at i }
    ∷ mark_checks input m bytes at (suc i) count

abbrev pub trailing_check : ℕ → ℕ → List ℕ → Check
trailing_check input end bytes = record { refusal = TrailingBytes; input = input; Fails = TrailingAt end bytes }

-- 1 to 3, section by section
abbrev pub layout_checks : ℕ → List ℕ → List Check
layout_checks input bytes =
    section_checks elements_section input 0 bytes
    ++ (section_checks (letters_section (elements_of bytes)) input (letters_at bytes) (drop (letters_at bytes) bytes)
    ++ section_checks (marks_section (elements_of bytes)) input (marks_at bytes) (drop (marks_at bytes) bytes))

-- 5, then 6
abbrev pub table_checks : ℕ → Morphism → List Check
table_checks input m =
    record { refusal = NotAssociative; input = input; Fails = NotAssociativeAt m }
    ∷ record { refusal = Unreachable; input = input; Fails = UnreachedAt m }
    ∷ []

-- 4, then 5, 6, then 7 and 8
abbrev pub content_checks : ℕ → List ℕ → List Check
content_checks input bytes =
    trailing_check input (rule_end bytes) bytes
    ∷ (table_checks input (morphism_of bytes)
    ++ mark_checks input (morphism_of bytes) bytes (marks_at bytes) 0 (marks_of bytes))

-- a rule file, as an input of the given number
unfoldable pub rule_checks : ℕ → List ℕ → List Check
rule_checks input bytes = layout_checks input bytes ++ content_checks input bytes

-- a second marks section, checked against the table of a rule: "its own 1 to 8 as far as they apply"
unfoldable pub second_marks_checks : ℕ → List ℕ → List ℕ → List Check
second_marks_checks input rule bytes =
    section_checks (marks_section (elements_of rule)) input 0 bytes
    ++ trailing_check input (2 + mark_width * two_bytes bytes 0) bytes
    ∷ mark_checks input (morphism_of rule) bytes 0 0 (two_bytes bytes 0)

-- 13 "a lent buffer is shorter than below"; input 1, place 0
pub record ShortAt (needed : ℕ) (buffer : List ℕ) (place : ℕ) : Type 0 where
  pub short : length buffer < needed
  pub is_place : place ≡ 0

-- "Buffers: .. scratch 65,536"
abbrev pub scratch_size : ℕ
scratch_size = 65536

-- "The longest rule file becomes 16,404 bytes, and rule buffers grow to that." (document 02, Job 12)
abbrev pub rule_size : ℕ
rule_size = 16404

-- "First 13", of a buffer that must have `needed` bytes
abbrev pub buffer_check : ℕ → List ℕ → Check
buffer_check needed buffer = record { refusal = BufferTooShort; input = 1; Fails = ShortAt needed buffer }

-- The rule file: where its sections stand, and the rule that its bytes mean. Document 01, "The rule file and the automaton
-- file"; document 02, Job 12, for the grades. Assumes nothing.
use Rattle.std.specs.Prelude.{ℕ, zero, suc, ◌+◌, ◌*◌, ◌%◌, Bool, cond, ◌&&◌, List, get_or, eqb}
use Rattle.theory.specs.Rules.{Morphism, Marking}
use Rattle.formats.specs.Table.{morphism_at}
use Rattle.formats.specs.Sections.{Section, one_byte, two-byte, two_bytes}

-- "pairs (s, e) of two bytes", and "Each mark gains a third byte, its grade" (Job 12)
abbrev pub mark_width : ℕ
mark_width = 3

-- "a one_byte count n": the first byte
abbrev pub elements_of : List ℕ → ℕ
elements_of bytes = get_or bytes 0 0

-- the letters' section stands after the elements': n and n × n bytes
unfoldable pub letters_at : List ℕ → ℕ
letters_at bytes = 1 + elements_of bytes * elements_of bytes

-- "a one_byte count k"
unfoldable pub letters_of : List ℕ → ℕ
letters_of bytes = get_or bytes (letters_at bytes) 0

-- the marks' section stands after the letters': k and k bytes
unfoldable pub marks_at : List ℕ → ℕ
marks_at bytes = letters_at bytes + (1 + letters_of bytes)

-- "a two-byte count"
unfoldable pub marks_of : List ℕ → ℕ
marks_of bytes = two_bytes bytes (marks_at bytes)

-- "a one_byte count n, 1 to 64, then n × n bytes"; an entry names an element
abbrev pub elements_section : Section
elements_section = record { width = one_byte; low = 1; high = 64; entries = λ n. n * n; floor = λ n i. 0; bound = λ n i. n }

-- "a one_byte count k, 1 to 16, then k bytes, the element of each letter", of n elements
abbrev pub letters_section : ℕ → Section
letters_section n = record { width = one_byte; low = 1; high = 16; entries = λ k. k; floor = λ k i. 0; bound = λ k i. n }

-- what the i-th byte of the marks stays below: "its grade 1 to 3", and n for an element
unfoldable pub mark_bound : ℕ → ℕ → ℕ
mark_bound n i = cond (eqb (i % mark_width) 2) 4 n

-- and where its range begins: "its grade 1 to 3"
unfoldable pub mark_floor : ℕ → ℕ
mark_floor i = cond (eqb (i % mark_width) 2) 1 0

-- "a two-byte count, 0 to 4,096, then pairs (s, e)", each with its grade, of n elements
abbrev pub marks_section : ℕ → Section
marks_section n = record {
  width = two-byte;
  low = 0;
  high = 4096;
  entries = λ c. mark_width * c;
  floor = λ c i. mark_floor i;
  bound = λ c i. mark_bound n i;
}

-- the end of the last section
unfoldable pub rule_end : List ℕ → ℕ
rule_end bytes = marks_at bytes + (2 + mark_width * marks_of bytes)

-- the morphism that a rule file means
abbrev pub morphism_of : List ℕ → Morphism
morphism_of bytes = morphism_at bytes (elements_of bytes) (letters_of bytes)

-- "pairs (s, e)": the i-th of a marks section that starts at a byte
unfoldable pub mark_start : List ℕ → ℕ → ℕ → ℕ
mark_start bytes at i = get_or bytes (at + (2 + mark_width * i)) 0

unfoldable pub mark_cycle : List ℕ → ℕ → ℕ → ℕ
mark_cycle bytes at i = get_or bytes (at + (2 + mark_width * i) + 1) 0

-- "a third byte, its grade": that of the i-th mark
unfoldable pub mark_grade : List ℕ → ℕ → ℕ → ℕ
mark_grade bytes at i = get_or bytes (at + (2 + mark_width * i) + 2) 0

-- the pair (s, e) is that of the i-th mark
unfoldable pub is_mark : List ℕ → ℕ → ℕ → ℕ → ℕ → Bool
is_mark bytes at s e i = eqb (mark_start bytes at i) s && eqb (mark_cycle bytes at i) e

-- the grade of (s, e) among the first marks; "an unlisted pair has grade 0"
unfoldable pub grade_among : List ℕ → ℕ → ℕ → ℕ → ℕ → ℕ
grade_among bytes at zero s e = 0
grade_among bytes at (suc i) s e = cond (is_mark bytes at s e i) (mark_grade bytes at i) (grade_among bytes at i s e)

-- the marking of the section at a byte: the grade of each pair
unfoldable pub marks_in : List ℕ → ℕ → Marking
marks_in bytes at s e = grade_among bytes at (two_bytes bytes at) s e

-- the marking that a rule file means
abbrev pub marking_of : List ℕ → Marking
marking_of bytes = marks_in bytes (marks_at bytes)

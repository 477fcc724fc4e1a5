-- Where the parts of a written rule stand: its three sections one after the other, and in them the count, the products, the
-- images and the marks. Assumes nothing.
use Prim.Native.Nat.{ℕ, suc, ◌+◌, ◌*◌, ◌/◌, ◌%◌, ◌<◌}
use mathlib.Core.Path.{◌≡◌, refl, sym, ap, ap₂, ◌∙◌}
use mathlib.Core.List.{List, ◌++◌, append_assoc}
use native.Mathlib.Omega.{arith}
use native.Mathlib.Nat.{add-zero, mod-add-div}
use native.Mathlib.Numerals.{one-add}
use lib.ListN.{length, get_or, drop, length-append, get_or-append}
use lib.Seq.{drop_at, get_or-drop}
use lib.Arith.{digits_lt, digits_div, digits_mod}
use Rattle.theory.specs.Rules.{Morphism, Marking}
use Rattle.formats.specs.Sections.{two_bytes}
use Rattle.formats.specs.Table.{product_at, image_at}
use Rattle.formats.specs.RuleFile.{elements_of, letters_at, letters_of, marks_at, marks_of, mark_width, mark_start, mark_cycle, mark_grade, rule_end}
use Rattle.formats.specs.WrittenFile.{tabulate, elements_bytes, letters_bytes, mark_numbers, mark_bytes, marks_bytes, file_of}
use Rattle.formats.proofs.Tabulated.{tabulate_length, tabulate_at}
use Rattle.formats.proofs.MarkBytes as bytes

-- the byte i further than a place is the i-th byte from there on
from_place : (bytes rest : List ℕ) (at i : ℕ) → drop at bytes ≡ rest → get_or bytes (at + i) 0 ≡ get_or rest i 0
from_place bytes rest at i e = sym (get_or-drop at bytes i 0) ∙ ap (λ (l : List ℕ). get_or l i 0) e

module _ (m : Morphism) (marks : Marking) where
  -- how long the sections are
  pub elements_length : length (elements_bytes m) ≡ 1 + m.size * m.size
  unfolding elements_bytes
  elements_length = omega (arith, tabulate_length 0 (m.size * m.size) (λ i. m.product (i / m.size) (i % m.size)))

  pub letters_length : length (letters_bytes m) ≡ 1 + m.letters
  unfolding letters_bytes
  letters_length = omega (arith, tabulate_length 0 m.letters m.image)

  pub marks_length : length (marks_bytes m marks) ≡ 2 + mark_width * length (mark_numbers m marks)
  unfolding marks_bytes
  marks_length = omega (arith, bytes.marks_length m marks (mark_numbers m marks))

  -- what stands from each section on
  from_letters : drop (1 + m.size * m.size) (file_of m marks) ≡ letters_bytes m ++ marks_bytes m marks
  unfolding file_of
  from_letters = drop_at (elements_bytes m) (letters_bytes m ++ marks_bytes m marks) _ elements_length

  from_marks : drop (1 + m.size * m.size + (1 + m.letters)) (file_of m marks) ≡ marks_bytes m marks
  unfolding file_of
  from_marks =
      ap (drop (1 + m.size * m.size + (1 + m.letters))) (sym (append_assoc (elements_bytes m) (letters_bytes m) (marks_bytes m marks)))
      ∙ drop_at (elements_bytes m ++ letters_bytes m) (marks_bytes m marks) _
      (length-append (elements_bytes m) (letters_bytes m) ∙ ap₂ ◌+◌ elements_length letters_length)

  -- the counts
  pub elements_are : elements_of (file_of m marks) ≡ m.size
  unfolding file_of elements_bytes
  elements_are = refl

  pub letters_at_lem : letters_at (file_of m marks) ≡ 1 + m.size * m.size
  unfolding letters_at
  letters_at_lem = ap (λ (n : ℕ). 1 + n * n) elements_are

  pub letters_are : letters_of (file_of m marks) ≡ m.letters
  unfolding letters_of letters_bytes
  letters_are =
      ap (λ (i : ℕ). get_or (file_of m marks) i 0) (letters_at_lem ∙ sym (add-zero _))
      ∙ from_place (file_of m marks) _ (1 + m.size * m.size) 0 from_letters

  pub marks_at_lem : marks_at (file_of m marks) ≡ 1 + m.size * m.size + (1 + m.letters)
  unfolding marks_at
  marks_at_lem = ap₂ (λ (i k : ℕ). i + (1 + k)) letters_at_lem letters_are

  -- what stands from each section on, at the place that the file says
  pub letters_from : drop (letters_at (file_of m marks)) (file_of m marks) ≡ letters_bytes m ++ marks_bytes m marks
  letters_from = rw letters_at_lem from_letters

  pub marks_from_lem : drop (marks_at (file_of m marks)) (file_of m marks) ≡ marks_bytes m marks
  marks_from_lem = rw marks_at_lem from_marks

  pub marks_are : marks_of (file_of m marks) ≡ length (mark_numbers m marks)
  unfolding marks_of two_bytes marks_bytes
  marks_are =
      ap₂ (λ (a b : ℕ). a + 256 * b)
      (ap (λ (i : ℕ). get_or (file_of m marks) i 0) (sym (add-zero _)) ∙ from_place (file_of m marks) _ _ 0 marks_from_lem)
      (from_place (file_of m marks) _ _ 1 marks_from_lem)
      ∙ mod-add-div (length (mark_numbers m marks)) 256

  -- the end of the last section is the end of the file
  pub file_length : length (file_of m marks) ≡ 1 + m.size * m.size + (1 + m.letters) + (2 + mark_width * length (mark_numbers m marks))
  unfolding file_of
  file_length =
      simp length-append (omega (arith, elements_length, letters_length, marks_length))

  pub ends_there : rule_end (file_of m marks) ≡ length (file_of m marks)
  unfolding rule_end
  ends_there = ap₂ (λ (a c : ℕ). a + (2 + mark_width * c)) marks_at_lem marks_are ∙ sym file_length

  -- a byte of the table
  pub table_byte : (i : ℕ) → i < m.size * m.size → get_or (file_of m marks) (1 + i) 0 ≡ m.product (i / m.size) (i % m.size)
  unfolding file_of elements_bytes
  table_byte i h =
      let entry : ℕ → ℕ = λ j. m.product (j / m.size) (j % m.size) in
      rw one-add
      (get_or-append (tabulate 0 (m.size * m.size) entry) _ 0 i (omega (arith, tabulate_length 0 (m.size * m.size) entry))
      ∙ tabulate_at (m.size * m.size) entry i h)

  -- the product of two elements
  pub product_stands : (a b : ℕ) → a < m.size → b < m.size → product_at (file_of m marks) m.size a b ≡ m.product a b
  unfolding product_at
  product_stands a b ha hb =
      table_byte (a * m.size + b) (digits_lt ha hb) ∙ ap₂ m.product (digits_div a hb) (digits_mod a hb)

  -- the element of a letter
  pub image_stands : (a : ℕ) → a < m.letters → image_at (file_of m marks) m.size a ≡ m.image a
  unfolding image_at letters_bytes
  image_stands a h =
      ap (λ (i : ℕ). get_or (file_of m marks) i 0) (let e : 2 + m.size * m.size + a ≡ 1 + m.size * m.size + suc a = omega arith in e)
      ∙ from_place (file_of m marks) _ (1 + m.size * m.size) (suc a) from_letters
      ∙ get_or-append (tabulate 0 m.letters m.image) _ 0 a (omega (arith, tabulate_length 0 m.letters m.image))
      ∙ tabulate_at m.letters m.image a h

  -- a byte of the marks
  mark_byte : (at i : ℕ) → at ≡ marks_at (file_of m marks) + (2 + i) → get_or (file_of m marks) at 0 ≡ get_or (mark_bytes m marks (mark_numbers m marks)) i 0
  unfolding marks_bytes
  mark_byte at i e =
      ap (λ (x : ℕ). get_or (file_of m marks) x 0) (let q : at ≡ marks_at (file_of m marks) + suc (suc i) = omega arith in q)
      ∙ from_place (file_of m marks) _ (marks_at (file_of m marks)) (suc (suc i)) marks_from_lem

  -- the j-th mark: its pair and its grade
  pub start_stands : (j : ℕ) → j < length (mark_numbers m marks)
      → mark_start (file_of m marks) (marks_at (file_of m marks)) j ≡ get_or (mark_numbers m marks) j 0 / m.size
  unfolding mark_start
  start_stands j h = mark_byte _ (mark_width * j) refl ∙ bytes.marked_start m marks (mark_numbers m marks) j h

  pub cycle_stands : (j : ℕ) → j < length (mark_numbers m marks)
      → mark_cycle (file_of m marks) (marks_at (file_of m marks)) j ≡ get_or (mark_numbers m marks) j 0 % m.size
  unfolding mark_cycle
  cycle_stands j h = mark_byte _ (mark_width * j + 1) (omega arith) ∙ bytes.marked_cycle m marks (mark_numbers m marks) j h

  pub grade_stands : (j : ℕ) → j < length (mark_numbers m marks)
      → mark_grade (file_of m marks) (marks_at (file_of m marks)) j ≡ marks (get_or (mark_numbers m marks) j 0 / m.size) (get_or (mark_numbers m marks) j 0 % m.size)
  unfolding mark_grade
  grade_stands j h = mark_byte _ (mark_width * j + 2) (omega arith) ∙ bytes.mark_grade_lem m marks (mark_numbers m marks) j h

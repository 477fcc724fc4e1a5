-- A file that is put in a name's place is read there, to the end that its own counts give. Assumes nothing.
use Prim.Native.Nat.{ℕ, ◌+◌, ◌*◌, ◌≤◌, ◌<◌}
use mathlib.Core.Path.{◌≡◌, sym, ap, ap₂, ◌∙◌}
use mathlib.Core.List.{List, ◌++◌}
use native.Mathlib.Omega.{arith}
use lib.ListN.{length, get_or, take, drop, get_or-append}
use lib.Seq.{length-take-le, get_or-take, take-take, take-append_seam, drop_at}
use Rattle.formats.specs.Sections.{two_bytes}
use Rattle.formats.specs.RuleFile.{letters_at, letters_of, marks_at, marks_of, rule_end}
use Rattle.formats.specs.RuleChecks.{rule_size}
use Rattle.promises.specs.FilePart.{file_part}
use Rattle.board_promises.specs.Boards.{file_at}

-- a file whose counts give its own end, and bytes that begin with it: their counts are those of the file
module _ (file bytes : List ℕ) (whole : length file ≡ rule_end file) (same : (i : ℕ) → i < length file → get_or bytes i 0 ≡ get_or file i 0) where
  same_letters_at : letters_at bytes ≡ letters_at file
  unfolding letters_at rule_end
  same_letters_at = ap (λ (n : ℕ). 1 + n * n) (same 0 (omega arith))

  same_marks_at : marks_at bytes ≡ marks_at file
  unfolding marks_at letters_of rule_end
  same_marks_at =
      ap₂ (λ (at k : ℕ). at + (1 + k)) same_letters_at (ap (λ (i : ℕ). get_or bytes i 0) same_letters_at ∙ same (letters_at file) (omega arith))

  same_end : rule_end bytes ≡ rule_end file
  unfolding rule_end marks_of two_bytes
  same_end =
      let count : two_bytes bytes (marks_at file) ≡ two_bytes file (marks_at file) =
      ap₂ (λ (low high : ℕ). low + 256 * high) (same (marks_at file) (omega arith)) (same (marks_at file + 1) (omega arith)) in
      ap (λ (at : ℕ). at + (2 + 3 * two_bytes bytes at)) same_marks_at ∙ ap (λ (k : ℕ). marks_at file + (2 + 3 * k)) count

-- it is read from their front
pub front_read : (file rest : List ℕ) → length file ≡ rule_end file → length file ≤ rule_size → file_part (take rule_size (file ++ rest)) ≡ file
front_read file rest whole short =
    ap (λ (n : ℕ). take n (take rule_size (file ++ rest))) (same_end file (take rule_size (file ++ rest)) whole same ∙ sym whole)
    ∙ take-take (length file) rule_size (file ++ rest) short ∙ take-append_seam file rest
  where
    same : (i : ℕ) → i < length file → get_or (take rule_size (file ++ rest)) i 0 ≡ get_or file i 0
    same i h = get_or-take rule_size (file ++ rest) i 0 (omega arith) ∙ get_or-append file rest 0 i h

-- a file that is put in the place of a name is read there
pub file_placed : (files file : List ℕ) (name : ℕ) → rule_size * name ≤ length files → length file ≡ rule_end file → length file ≤ rule_size
    → file_at (take (rule_size * name) files ++ (file ++ drop (rule_size * name + length file) files)) name ≡ file
file_placed files file name inside whole short =
    let rest = drop (rule_size * name + length file) files in
    ap (λ (l : List ℕ). file_part (take rule_size l))
    (drop_at (take (rule_size * name) files) (file ++ rest) (rule_size * name) (length-take-le (rule_size * name) files inside))
    ∙ front_read file rest whole short

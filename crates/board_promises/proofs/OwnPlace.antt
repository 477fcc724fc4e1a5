-- A file that was copied to a name's place is read there to the end that its own counts give, whatever stands behind. Assumes nothing.
use Prim.Native.Nat.{ℕ, ◌+◌, ◌*◌, ◌-◌, ◌≤◌, ◌<◌}
use mathlib.Core.Path.{◌≡◌, sym, ap, ap₂, ◌∙◌}
use mathlib.Core.List.{List, ◌++◌}
use native.Mathlib.Omega.{arith}
use lib.ListN.{length, get_or, take, drop, get_or-append}
use lib.Seq.{paste, take-append_seam, take-append-add, drop_at, length-take-le}
use Rattle.answer.specs.Checks.{passed, FirstFailure}
use Rattle.formats.specs.Sections.{two_bytes}
use Rattle.formats.specs.RuleFile.{letters_at, letters_of, marks_at, marks_of, rule_end}
use Rattle.formats.specs.RuleChecks.{rule_size, rule_checks}
use Rattle.promises.specs.FilePart.{file_part}
use Rattle.board_promises.specs.Boards.{slot_of, file_at}
use Rattle.board_promises.proofs.SmallFiles.{whole_file, short_file}
use Rattle.board_promises.proofs.Places.{pasted_file}

module _ (input : ℕ) (file : List ℕ) (all : FirstFailure (rule_checks input file) passed) where
  -- the counts stand within the file
  marks_inside : marks_at file + 1 < length file
  unfolding rule_end
  marks_inside = omega (arith, whole_file input file all)

  letters_inside : letters_at file < length file
  unfolding marks_at
  letters_inside = omega (arith, marks_inside)

  module _ (rest : List ℕ) where
    byte_here : (i : ℕ) → i < length file → get_or (file ++ rest) i 0 ≡ get_or file i 0
    byte_here i h = get_or-append file rest 0 i h

    letters_at_lem : letters_at (file ++ rest) ≡ letters_at file
    unfolding letters_at
    letters_at_lem = ap (λ (n : ℕ). 1 + n * n) (byte_here 0 (omega (arith, letters_inside)))

    letters : letters_of (file ++ rest) ≡ letters_of file
    unfolding letters_of
    letters = ap (λ (at : ℕ). get_or (file ++ rest) at 0) letters_at_lem ∙ byte_here (letters_at file) letters_inside

    marks_at_lem : marks_at (file ++ rest) ≡ marks_at file
    unfolding marks_at
    marks_at_lem = ap₂ (λ (at count : ℕ). at + (1 + count)) letters_at_lem letters

    marks : marks_of (file ++ rest) ≡ marks_of file
    unfolding marks_of two_bytes
    marks =
        ap (two_bytes (file ++ rest)) marks_at_lem
        ∙ ap₂ (λ (low top : ℕ). low + 256 * top) (byte_here (marks_at file) (omega (arith, marks_inside))) (byte_here (marks_at file + 1) marks_inside)

    end : rule_end (file ++ rest) ≡ rule_end file
    unfolding rule_end
    end = ap₂ (λ (at count : ℕ). at + (2 + 3 * count)) marks_at_lem marks

    own_part : file_part (file ++ rest) ≡ file
    own_part = ap (λ (n : ℕ). take n (file ++ rest)) (end ∙ sym (whole_file input file all)) ∙ take-append_seam file rest

  pub own_file : (d : List ℕ) (name : ℕ) → rule_size * name + length file ≤ length d → file_at (paste d (rule_size * name) file (length file)) name ≡ file
  own_file d name room = ap file_part slot ∙ own_part (take (rule_size - length file) behind)
    where
      behind : List ℕ
      behind = drop (rule_size * name + length file) d

      slot : slot_of (paste d (rule_size * name) file (length file)) name ≡ file ++ take (rule_size - length file) behind
      slot =
          ap (λ (l : List ℕ). take rule_size (drop (rule_size * name) l)) (pasted_file d file (rule_size * name))
          ∙ ap (take rule_size) (drop_at (take (rule_size * name) d) (file ++ behind) (rule_size * name) (length-take-le (rule_size * name) d (omega arith)))
          ∙ ap (λ (n : ℕ). take n (file ++ behind)) (let z : rule_size ≡ length file + (rule_size - length file) = omega (arith, short_file input file all) in z)
          ∙ take-append-add file behind (rule_size - length file)

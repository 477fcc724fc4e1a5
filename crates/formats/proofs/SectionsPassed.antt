-- What a rule file whose three sections pass is known to be: a table, and marks that name elements and have grades, all within the bytes.
-- Assumes nothing.
use Prim.Native.Nat.{ℕ, ◌+◌, ◌*◌, ◌≤◌, ◌<◌}
use mathlib.Core.Path.{◌≡◌, subst}
use mathlib.Core.List.{List}
use native.Mathlib.Omega.{arith}
use native.Mathlib.Nat.{zero-add}
use lib.Arith.{digits_lt}
use lib.ListN.{length, get_or}
use Rattle.answer.specs.Checks.{passed, FirstFailure}
use Rattle.formats.proofs.Tables.{Table}
use Rattle.formats.specs.Table.{product_at, image_at}
use Rattle.formats.specs.Sections.{InRange}
use Rattle.formats.specs.RuleFile.{elements_of, letters_at, letters_of, marks_at, marks_of, rule_end, mark_start, mark_cycle, mark_grade}
use Rattle.formats.specs.RuleChecks.{layout_checks}
use Rattle.formats.proofs.RuleSections.{elements_good, letters_good, marks_good}
use Rattle.formats.proofs.MarkEntries as marks

module _ (bytes : List ℕ) (all : FirstFailure (layout_checks 1 bytes) passed) where
  pub size_small : elements_of bytes ≤ 64
  size_small = (elements_good 1 bytes all).within

  pub letters_small : letters_of bytes ≤ 16
  unfolding letters_of
  letters_small = (letters_good 1 bytes all).within

  pub letters_some : 1 ≤ letters_of bytes
  unfolding letters_of
  letters_some = (letters_good 1 bytes all).above

  pub marks_small : marks_of bytes ≤ 4096
  unfolding marks_of
  marks_small = (marks_good 1 bytes all).within

  -- the last section ends within the file
  pub end_inside : rule_end bytes ≤ length bytes
  unfolding rule_end marks_of
  end_inside = (marks_good 1 bytes all).inside

  pub table_of : Table bytes (elements_of bytes) (letters_of bytes)
  unfolding product_at image_at letters_at letters_of
  table_of = record {
    some = (elements_good 1 bytes all).above;
    small = size_small;
    letters_small = letters_small;
    long = omega (arith, (letters_good 1 bytes all).inside);
    products = λ a b ha hb. there (zero-add _) ((elements_good 1 bytes all).entries_good (a * elements_of bytes + b) (digits_lt ha hb)).below;
    images = λ a h. there (let e : letters_at bytes + (1 + a) ≡ 2 + elements_of bytes * elements_of bytes + a = omega arith in e) ((letters_good 1 bytes all).entries_good a h).below;
  }
    where
      there : {at at' : ℕ} → at ≡ at' → get_or bytes at 0 < elements_of bytes → get_or bytes at' 0 < elements_of bytes
      there e h = subst (λ (x : ℕ). get_or bytes x 0 < elements_of bytes) e h

  pub starts_below : (i : ℕ) → i < marks_of bytes → mark_start bytes (marks_at bytes) i < elements_of bytes
  unfolding marks_of
  starts_below = marks.starts_below (marks_good 1 bytes all)

  pub cycles_below : (i : ℕ) → i < marks_of bytes → mark_cycle bytes (marks_at bytes) i < elements_of bytes
  unfolding marks_of
  cycles_below = marks.cycles_below (marks_good 1 bytes all)

  pub grades_within : (i : ℕ) → i < marks_of bytes → InRange 1 4 (mark_grade bytes (marks_at bytes) i)
  unfolding marks_of
  grades_within = marks.grades_within (elements_of bytes) (marks_good 1 bytes all)

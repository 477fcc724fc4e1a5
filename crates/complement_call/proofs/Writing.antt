-- The file that is written with a second table of marks: the rule's own products and images, read where they stand.
-- Assumes nothing.
use Prim.Native.Nat.{ℕ, ◌+◌, ◌*◌, ◌-◌, ◌≤◌}
use mathlib.Core.Path.{◌≡◌, refl}
use mathlib.Core.List.{List}
use native.Mathlib.Omega.{arith}
use lib.Arith.{digits_lt}
use lib.ListN.{length, take, drop}
use Rattle.formats.proofs.Tables.{Table}
use Rattle.formats.specs.Table.{product_at, image_at, morphism_at}
use Rattle.formats.specs.WrittenFile.{file_of}
use Rattle.rule_bytes.specs.Writing.{table_marks}
use Rattle.rule_writer.specs.Writing.{table_morphism, RuleNeeds, table_file}
use Rattle.formats.proofs.Agree.{Agree}
use Rattle.formats.proofs.Same.{SameMarks, file_same}
use Rattle.formats.specs.Front.{AtFront}
use Rattle.formats.proofs.Front.{front_same}
use Rattle.scratch.specs.Map.{second_base, marks_from}
use Rattle.scratch.proofs.Parts.{part_length, part_byte}
use Rattle.complement_call.specs.Promise.{WriteNeeds, second_file}

module _ {rule : List ℕ} {n k : ℕ} (table : Table rule n k) {scratch out : List ℕ} (place : WriteNeeds k scratch out) where
  abbrev products : List ℕ
  products = take (length rule - 1) (drop 1 rule)

  abbrev images : List ℕ
  images = take (length rule - (2 + n * n)) (drop (2 + n * n) rule)

  abbrev marks : List ℕ
  marks = take (length scratch - second_base) (drop second_base scratch)

  products_from : 1 ≤ length rule
  products_from = omega (arith, table.long)

  images_from : 2 + n * n ≤ length rule
  images_from = omega (arith, table.long)

  marks_from_lem : second_base ≤ length scratch
  marks_from_lem = omega (arith, place.marks_long)

  pub rule_place : RuleNeeds (take (length rule - 1) (drop 1 rule)) (take (length rule - (2 + n * n)) (drop (2 + n * n) rule)) (take (length scratch - second_base) (drop second_base scratch)) n k out
  rule_place = record {
    some = table.some;
    small = table.small;
    letters_some = place.letters_some;
    letters_small = table.letters_small;
    table_long = omega (arith, table.long, part_length rule 1 products_from);
    images_long = omega (arith, table.long, part_length rule (2 + n * n) images_from);
    marks_long = omega (arith, place.marks_long, part_length scratch second_base marks_from_lem);
    room = place.room;
  }

  -- the tables that are copied are the rule's
  agree : Agree (morphism_at rule n k) (table_morphism products images n k)
  unfolding product_at image_at
  agree = record {
    same_size = refl;
    same_letters = refl;
    same_product = λ a b ha hb. part_byte rule 1 products_from (a * n + b) (omega (arith, table.long, digits_lt ha hb));
    same_image = λ a h. part_byte rule (2 + n * n) images_from a (omega (arith, table.long));
  }

  same_marks : SameMarks n (marks_from scratch second_base) (table_marks marks)
  unfolding table_marks marks_from
  same_marks = record {
    same = λ s e hs he. part_byte scratch second_base marks_from_lem (s * 64 + e) (omega (arith, table.small, place.marks_long));
  }

  same_file : file_of (table_morphism products images n k) (table_marks marks) ≡ file_of (morphism_at rule n k) (marks_from scratch second_base)
  same_file = file_same agree same_marks

  pub tables_written : {exit : List ℕ} {r : ℕ}
      → AtFront (table_file (take (length rule - 1) (drop 1 rule)) (take (length rule - (2 + n * n)) (drop (2 + n * n) rule)) (take (length scratch - second_base) (drop second_base scratch)) n k) out exit r
      → AtFront (second_file (morphism_at rule n k) scratch) out exit r
  tables_written = front_same same_file

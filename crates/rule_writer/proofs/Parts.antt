-- From the parts of a file to the whole: the marks' count before the marks, and the three sections of a rule one after the other.
-- Assumes nothing.
use Prim.Native.Nat.{ℕ, ◌+◌, ◌*◌, ◌-◌, ◌/◌, ◌%◌, ◌≤◌}
use mathlib.Core.Path.{◌≡◌, refl, ap, ◌∙◌}
use mathlib.Core.List.{List, ◌∷◌, ◌++◌}
use native.Mathlib.Omega.{arith}
use native.Mathlib.Nat.{mul-le-mul, div-add-mod'}
use lib.ListN.{length, get_or, take, set, length-append}
use Rattle.theory.specs.Rules.{Morphism}
use Rattle.formats.specs.RuleFile.{mark_width}
use Rattle.formats.specs.RuleChecks.{rule_size}
use Rattle.formats.specs.WrittenFile.{elements_bytes, letters_bytes, marks_bytes, file_of}
use Rattle.formats.specs.Front.{AtFront}
use Rattle.rule_bytes.specs.Writing.{Written, table_marks, CountedNeeds}
use Rattle.rule_writer.specs.Writing.{table_morphism, AllNeeds, MarksNeeds, MarksWritten, RuleNeeds, table_file}
use Rattle.formats.proofs.Rows.{marks_from, section_is}
use Rattle.formats.proofs.Tabulated.{tabulate_take}
use Rattle.rule_bytes.proofs.Placed.{written_length, written_more, written_at_front, written_front}
use Rattle.rule_bytes.proofs.Counted.{counted_length, counted_end}
use Rattle.formats.proofs.GoodSections.{file_short}
use Rattle.rule_writer.proofs.Rows.{stretch_short}

module _ {marks : List ℕ} {n : ℕ} {before : List ℕ} {at : ℕ} (p : MarksNeeds marks n before at) where
  -- where the marks go, two bytes on
  pub marks_place : AllNeeds marks n before (at + 2)
  marks_place = record { table = p.table; room = omega (arith, p.room) }

  module _ {after : List ℕ} {end : ℕ} (w : Written before (at + 2) (marks_from n (table_marks marks) 0 (n * n)) after end) where
    short : length (marks_from n (table_marks marks) 0 (n * n)) ≤ mark_width * (n * n)
    short = stretch_short n (table_marks marks) 0 (n * n)

    -- the buffer has kept its length
    pub marks_kept : length after ≡ length before
    marks_kept = written_length w (omega (arith, p.room, short))

    -- a third of what was written is as many as the marks
    pub marks_count : (end - (at + 2)) / mark_width ≡ length (marks_from n (table_marks marks) 0 (n * n)) / mark_width
    marks_count = ap (λ (c : ℕ). c / mark_width) (let e : end - (at + 2) ≡ length (marks_from n (table_marks marks) 0 (n * n)) = omega (arith, w.ends) in e)

    pub marks_count_small : (end - (at + 2)) / mark_width ≤ 4096
    marks_count_small = omega (arith, w.ends, short, mul-le-mul p.table.small p.table.small)

    -- the count before the marks
    pub marks_written : MarksWritten marks n before at
        (set (set after at ((end - (at + 2)) / mark_width % 256)) (at + 1) ((end - (at + 2)) / mark_width / 256)) end
    marks_written = record {
      section = λ m e.
          rw (section_is m (table_marks marks) n e, marks_count)
          (written_front w (omega (arith, p.room, short)) _ _);
    }

-- three parts one after the other, from the front on
pub three_parts : {d e f g : List ℕ} {x y z : List ℕ} {a b end : ℕ} → Written d 0 x e a → Written e a y f b → Written f b z g end
    → length x + (length y + length z) ≤ length d → Written d 0 (x ++ (y ++ z)) g end
three_parts {x = x} {y = y} {z = z} w v u h =
    let k = written_length w (omega arith) in
    written_more w (written_more v u (omega (arith, w.ends))) (simp length-append (omega arith))

module _ {table images marks : List ℕ} {n k : ℕ} {before : List ℕ} (p : RuleNeeds table images marks n k before) where
  cells : n * n ≤ 4096
  cells = mul-le-mul p.small p.small

  -- the elements' section
  elements_is : elements_bytes (table_morphism table images n k) ≡ n ∷ take (n * n) table
  unfolding elements_bytes
  elements_is = ap (λ (l : List ℕ). n ∷ l) (tabulate_take (n * n) _ table p.table_long (λ j h. ap (λ (i : ℕ). get_or table i 0) (div-add-mod' j n)))

  -- the letters' section
  letters_is : letters_bytes (table_morphism table images n k) ≡ k ∷ take k images
  unfolding letters_bytes
  letters_is = ap (λ (l : List ℕ). k ∷ l) (tabulate_take k _ images p.images_long (λ j h. refl))

  -- where the elements go
  pub rule_elements : CountedNeeds table n (n * n) before 0
  rule_elements = record { small = omega (arith, p.small); enough = p.table_long; room = omega (arith, cells, p.room) }

  module _ {now : List ℕ} {letters_at_lem : ℕ} (w : Written before 0 (n ∷ take (n * n) table) now letters_at_lem) where
    kept : length now ≡ length before
    kept = counted_length rule_elements w

    -- where the letters go
    pub rule_letters : CountedNeeds images k k now letters_at_lem
    rule_letters = record {
      small = omega (arith, p.letters_small);
      enough = p.images_long;
      room = omega (arith, kept, counted_end rule_elements w, cells, p.letters_small, p.room);
    }

    module _ {then : List ℕ} {marks_at_lem : ℕ} (v : Written now letters_at_lem (k ∷ take k images) then marks_at_lem) where
      kept_again : length then ≡ length before
      kept_again = counted_length rule_letters v ∙ kept

      -- where the marks go
      pub rule_marks : MarksNeeds marks n then marks_at_lem
      rule_marks = record {
        table = record { small = p.small; long = p.marks_long };
        room = omega (arith, kept_again, counted_end rule_elements w, counted_end rule_letters v, cells, p.letters_small, p.room);
      }

      -- the whole file
      pub rule_written : {after : List ℕ} {end : ℕ} → MarksWritten marks n then marks_at_lem after end → AtFront (table_file table images marks n k) before after end
      unfolding file_of
      rule_written {after} {end} u = written_at_front whole
        where
          m : Morphism
          m = table_morphism table images n k

          file : List ℕ
          file = file_of m (table_marks marks)

          rest : List ℕ
          rest = letters_bytes m ++ marks_bytes m (table_marks marks)

          short : length file ≤ rule_size
          short =
              file_short m (table_marks marks)
              (record { some = p.some; small = p.small; letters_some = p.letters_some; letters_small = p.letters_small })

          whole : Written before 0 file after end
          whole =
              let w' : Written before 0 (elements_bytes m) now letters_at_lem = rw elements_is w in
              let v' : Written now letters_at_lem (letters_bytes m) then marks_at_lem = rw letters_is v in
              three_parts w' v' (u.section m refl)
              (omega (arith, p.room, short, length-append (elements_bytes m) rest, length-append (letters_bytes m) (marks_bytes m (table_marks marks))))

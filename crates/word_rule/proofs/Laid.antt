-- The table of the classes laid out, its linked pairs marked, and the rule written. Assumes nothing.
use Prim.Native.Nat.{ℕ, ◌+◌, ◌*◌, ◌<◌}
use mathlib.Core.Path.{◌≡◌, refl, sym, ap, subst, ◌∙◌}
use mathlib.Core.List.{List}
use native.Mathlib.Omega.{arith}
use lib.ListN.{get_or}
use Rattle.scratch.specs.Bytes.{UnchangedOutside}
use Rattle.scratch.specs.Map.{steps_base, laid_products_base, laid_marks_base, marks_from}
use Rattle.scratch.specs.Rows.{RowsFilled}
use Rattle.scratch.proofs.Rows.{pair_small, square_small}
use Rattle.scratch.proofs.Unchanged.{unchanged_both, unchanged_wider}
use Rattle.minimality.proofs.Saturation.{MarksOutcomes}
use Rattle.rule_laid.specs.Laid.{laid_table, LaidNeeds, LaidAs, LaidWritten}
use Rattle.rule_laid.proofs.Laid.{linked_alike}
use Rattle.word_table.specs.Laying.{laid_rule, AlongWord}
use Rattle.word_table.proofs.Staying.{LaidBehind, behind_kept, along_stays}
use Rattle.word_rule.specs.Writing.{GradesNeeds, LinkedGrade, WordsNeeds, WordsWritten}

module _ {count k : ℕ} {entry out : List ℕ} (p : WordsNeeds count k entry out) where
  module _ {mid : List ℕ} (t : RowsFilled (AlongWord count entry) laid_products_base count count count entry mid) where
    -- the grades behind the products are as they were
    products_kept : UnchangedOutside laid_products_base laid_marks_base entry mid
    products_kept = unchanged_wider (omega arith) (omega (arith, square_small p.table.few)) t.kept

    pub grades_place : GradesNeeds count mid
    grades_place = record { few = p.table.few; room = rw t.kept.same_length p.table.room }

    module _ {exit : List ℕ} (g : RowsFilled (LinkedGrade count mid) laid_marks_base 64 count count mid exit) where
      behind : LaidBehind entry exit
      behind =
          unchanged_both (unchanged_wider (omega arith) (omega arith) products_kept)
          (unchanged_wider (omega arith) (omega (arith, p.table.few)) g.kept)

      product_byte_lem : (i j : ℕ) → i < count → j < count → (laid_rule exit count k).product i j ≡ (laid_table mid count).product i j
      product_byte_lem i j hi hj = g.kept.before (laid_products_base + (i * count + j)) (omega (arith, pair_small count i j p.table.few hi hj))

      grade_byte : (s e : ℕ) → s < count → e < count → marks_from mid laid_marks_base s e ≡ marks_from entry laid_marks_base s e
      unfolding marks_from
      grade_byte s e hs he = products_kept.after (laid_marks_base + (s * 64 + e)) (omega arith)

      products_laid : (i j : ℕ) → i < count → j < count → AlongWord count exit i j ((laid_rule exit count k).product i j)
      products_laid i j hi hj = subst (AlongWord count exit i j) (sym (product_byte_lem i j hi hj)) (along_stays behind p.table hi hj (t.filled i j hi hj))

      marks_laid : MarksOutcomes (laid_rule exit count k) (marks_from entry laid_marks_base) (marks_from exit laid_marks_base)
      unfolding marks_from
      marks_laid = record {
        of_linked = λ s e l.
            (g.filled s e l.inside l.idempotent.inside).of_linked (linked_alike refl (λ x y hx hy. sym (product_byte_lem x y hx hy)) l)
            ∙ grade_byte s e l.inside l.idempotent.inside;
        of_others = λ s e hs he f. (g.filled s e hs he).of_others (λ l. f (linked_alike refl product_byte_lem l));
      }

      pub laid_place : LaidNeeds steps_base count k exit out
      laid_place = record {
        some = p.some;
        small = p.table.few;
        letters_some = p.letters_some;
        letters_small = p.letters_small;
        images_inside = omega arith;
        room = rw behind.same_length p.table.room;
        out_room = p.out_room;
      }

      laid_as : LaidAs (laid_rule exit count k) (marks_from exit laid_marks_base) steps_base count k exit
      unfolding marks_from
      laid_as = record {
        size_is = refl;
        letters_are = refl;
        products = λ i j hi hj. refl;
        elements = λ x h. ap (λ (i : ℕ). get_or exit (steps_base + i) 0) (let e : x ≡ 0 * 16 + x = omega arith in e);
        grades = λ i j hi hj. refl;
      }

      pub words_written : {after : List ℕ} {end : ℕ} → LaidWritten steps_base count k exit out after end → WordsWritten count k entry exit out after end
      words_written w = record {
        same_length = behind.same_length;
        records = behind_kept behind;
        products = products_laid;
        marked = marks_laid;
        written = w.written _ _ laid_as;
      }

-- The tables of the pairs, once laid out, are those of the rule of the pairs with the combined grades for marks. Assumes nothing.
use Prim.Native.Nat.{ℕ, ◌+◌, ◌*◌, ◌<◌}
use mathlib.Core.Path.{◌≡◌, refl, sym, ap, ◌∙◌}
use mathlib.Core.List.{List}
use native.Mathlib.Omega.{arith}
use Rattle.promises.specs.declared.Operation.{Operation}
use Rattle.scratch.specs.Bytes.{UnchangedOutside}
use Rattle.scratch.specs.Map.{laid_products_base, laid_images_base, laid_marks_base, marks_from}
use Rattle.scratch.specs.Rows.{RowFilled, RowsFilled}
use Rattle.scratch.proofs.Rows.{pair_small, square_small}
use Rattle.scratch.proofs.Unchanged.{unchanged_both, unchanged_wider}
use Rattle.rule_laid.specs.Laid.{laid_table, LaidNeeds, LaidAs, LaidWritten}
use Rattle.rule_laid.proofs.Laid.{linked_alike}
use Rattle.pair_list.specs.Pairs.{TwoTables}
use Rattle.pair_list.proofs.Listed.{letter_listed, product_listed}
use Rattle.pair_list.specs.Tables.{PairTable}
use Rattle.pair_table.specs.Layout.{pair_product, pair_image, HalvesNeeds, PairsNeeds}
use Rattle.pair_table.proofs.Kept.{halves_kept, image_kept}
use Rattle.pair_marks.specs.Marks.{PairMark}
use Rattle.pair_marks.proofs.Kept.{grade_kept}
use Rattle.pair_rule.specs.Writing.{laid_pairs, PairsLayNeeds, PairsRuleNeeds, MarksPairGrades, PairsLaid, PairsWritten}

module _ {first : List ℕ} {n₁ : ℕ} {second : List ℕ} {n₂ k : ℕ} (tables : TwoTables first n₁ second n₂ k) {count : ℕ} {entry : List ℕ}
    (p : PairsLayNeeds first n₁ second n₂ k count entry) where
  -- of a complete list the halves are elements, and products and letters have numbers
  pub list_place : PairsNeeds first n₁ second n₂ k count entry
  unfolding pair_product pair_image
  list_place = record {
    halves = record { few = p.list.few; lefts = p.list.left_inside; rights = p.list.right_inside; room = p.room };
    products = λ i j hi hj. omega (arith, (product_listed tables p.list i j hi hj).number);
    images = λ x h. omega (arith, (letter_listed tables p.list x h).number);
  }

  -- the halves are among 64
  small_halves : HalvesNeeds 64 64 count entry
  small_halves = record {
    few = p.list.few;
    lefts = λ i h. omega (arith, tables.first_is_table.small, p.list.left_inside i h);
    rights = λ i h. omega (arith, tables.second_is_table.small, p.list.right_inside i h);
    room = p.room;
  }

  -- products and letters are laid out
  module _ {products images : List ℕ} (g : RowsFilled (λ i j byte. byte + 1 ≡ pair_product first n₁ second n₂ entry i j) laid_products_base count count count entry products)
      (f : RowFilled (λ x byte. byte + 1 ≡ pair_image first n₁ second n₂ products x) laid_images_base k products images) where
    both_kept : UnchangedOutside laid_products_base laid_marks_base entry images
    both_kept =
        unchanged_both (unchanged_wider (omega arith) (omega (arith, square_small p.list.few)) g.kept)
        (unchanged_wider (omega arith) (omega (arith, tables.first_is_table.letters_small)) f.kept)

    pub marks_place : HalvesNeeds 64 64 count images
    marks_place = halves_kept both_kept (omega arith) small_halves

    -- the marks too
    module _ {operation : Operation} {exit : List ℕ} (h : RowsFilled (PairMark operation count images) laid_marks_base 64 count count images exit) where
      product_byte_lem : (i j : ℕ) → i < count → j < count → (laid_table images count).product i j ≡ (laid_pairs exit count k).product i j
      product_byte_lem i j hi hj = sym (h.kept.before (laid_products_base + (i * count + j)) (omega (arith, pair_small count i j p.list.few hi hj)))

      laid_product_lem : (i j : ℕ) → i < count → j < count → pair_product first n₁ second n₂ entry i j ≡ (laid_pairs exit count k).product i j + 1
      laid_product_lem i j hi hj =
          sym (g.filled i j hi hj)
          ∙ ap (λ (x : ℕ). x + 1)
          (sym (f.kept.before (laid_products_base + (i * count + j)) (omega (arith, pair_small count i j p.list.few hi hj))) ∙ product_byte_lem i j hi hj)

      laid_image : (x : ℕ) → x < k → pair_image first n₁ second n₂ entry x ≡ (laid_pairs exit count k).image x + 1
      laid_image x l =
          sym (image_kept g.kept (omega arith) tables x l)
          ∙ sym (f.filled x l)
          ∙ ap (λ (y : ℕ). y + 1) (sym (h.kept.before (laid_images_base + x) (omega (arith, tables.first_is_table.letters_small))))

      table_laid : PairTable first n₁ second n₂ k entry count (laid_pairs exit count k)
      unfolding pair_product pair_image
      table_laid = record { same_size = refl; same_letters = refl; products = laid_product_lem; images = laid_image }

      marks_laid : MarksPairGrades (laid_pairs exit count k) operation entry (marks_from exit laid_marks_base)
      unfolding marks_from
      marks_laid = record {
        of_linked = λ i j l.
            (h.filled i j l.inside l.idempotent.inside).of_linked (linked_alike refl product_byte_lem l)
            ∙ grade_kept both_kept (omega arith) (omega arith) small_halves operation i j l.inside l.idempotent.inside;
        of_others = λ i j hi hj r. (h.filled i j hi hj).of_others (λ l. r (linked_alike refl (λ x y hx hy. sym (product_byte_lem x y hx hy)) l));
      }

      pub pairs_laid : PairsLaid first n₁ second n₂ k count operation entry exit
      pairs_laid = record { same_length = h.kept.same_length ∙ both_kept.same_length; table = table_laid; marked = marks_laid }

module _ {first : List ℕ} {n₁ : ℕ} {second : List ℕ} {n₂ k : ℕ} (tables : TwoTables first n₁ second n₂ k) {count : ℕ} {operation : Operation} {entry exit out : List ℕ}
    (p : PairsRuleNeeds first n₁ second n₂ k count entry out) (l : PairsLaid first n₁ second n₂ k count operation entry exit) where
  -- the rule that is laid out can be written
  pub laid_place : LaidNeeds laid_images_base count k exit out
  laid_place = record {
    some = p.lay.list.some;
    small = p.lay.list.few;
    letters_some = p.letters_some;
    letters_small = tables.first_is_table.letters_small;
    images_inside = omega arith;
    room = omega (arith, p.lay.room, l.same_length);
    out_room = p.out_room;
  }

  -- the bytes are those of the rule that is laid out
  pub laid_as : LaidAs (laid_pairs exit count k) (marks_from exit laid_marks_base) laid_images_base count k exit
  unfolding marks_from
  laid_as = record {
    size_is = refl;
    letters_are = refl;
    products = λ i j hi hj. refl;
    elements = λ x h. refl;
    grades = λ i j hi hj. refl;
  }

  -- and it is what was written
  pub pairs_written : {after : List ℕ} {end : ℕ} → LaidWritten laid_images_base count k exit out after end
      → PairsWritten first n₁ second n₂ k count operation entry exit out after end
  pairs_written w = record { laid = l; written = w.written _ _ laid_as }

-- The table of the pairs and the grades laid out one after the other. Assumes nothing.
use Prim.Native.Nat.{ℕ, ◌+◌, ◌*◌, ◌<◌}
use native.Mathlib.Omega.{arith}
use mathlib.Core.Path.{◌≡◌, refl, sym, ap, ◌∙◌}
use mathlib.Core.List.{List}
use Rattle.scratch.specs.Bytes.{UnchangedOutside}
use Rattle.scratch.specs.Map.{laid_products_base, laid_images_base, laid_marks_base, until_grades_base}
use Rattle.scratch.specs.Rows.{RowFilled, RowsFilled}
use Rattle.scratch.proofs.Rows.{pair_small, square_small}
use Rattle.scratch.proofs.Unchanged.{unchanged_both, unchanged_wider}
use Rattle.pair_list.specs.Tables.{PairTable}
use Rattle.pair_table.specs.Layout.{pair_product, pair_image, PairsNeeds}
use Rattle.pair_table.proofs.Kept.{pairs_kept, image_kept}
use Rattle.pair_rule.specs.Writing.{laid_pairs}
use Rattle.pair_rule.proofs.Laid.{list_place}
use Rattle.until_grades.specs.Grades.{both_grades, GradesNeeds}
use Rattle.until_grades.proofs.Grades.{needs_kept, grades_kept}
use Rattle.until_pairs.specs.Tables.{TableNeeds, TableLaid}

module _ {first : List ℕ} {n₁ : ℕ} {second : List ℕ} {n₂ k count : ℕ} {entry : List ℕ} (n : TableNeeds first n₁ second n₂ k count entry) where
  pub products_place : PairsNeeds first n₁ second n₂ k count entry
  products_place = list_place n.tables n.lay

  grades_place : GradesNeeds first n₁ second n₂ k count entry
  grades_place = record {
    tables = n.tables;
    few = n.lay.list.few;
    lefts = n.lay.list.left_inside;
    rights = n.lay.list.right_inside;
    first_small = n.first_small;
    second_small = n.second_small;
    room = n.lay.room;
  }

  module _ {products : List ℕ} (g : RowsFilled (λ i j byte. byte + 1 ≡ pair_product first n₁ second n₂ entry i j) laid_products_base count count count entry products) where
    pub images_place : PairsNeeds first n₁ second n₂ k count products
    images_place = pairs_kept g.kept (omega arith) n.tables products_place

    module _ {images : List ℕ} (f : RowFilled (λ x byte. byte + 1 ≡ pair_image first n₁ second n₂ products x) laid_images_base k products images) where
      both_kept : UnchangedOutside laid_products_base laid_marks_base entry images
      both_kept =
          unchanged_both (unchanged_wider (omega arith) (omega (arith, square_small n.lay.list.few)) g.kept)
          (unchanged_wider (omega arith) (omega (arith, n.tables.first_is_table.letters_small)) f.kept)

      pub levels_place : GradesNeeds first n₁ second n₂ k count images
      levels_place = needs_kept grades_place both_kept (omega arith) (omega arith)

      module _ {exit : List ℕ} (h : RowsFilled (λ t z byte. byte ≡ both_grades first n₁ second n₂ k images t z) until_grades_base 64 count count images exit) where
        laid_product_lem : (i j : ℕ) → i < count → j < count → pair_product first n₁ second n₂ entry i j ≡ (laid_pairs exit count k).product i j + 1
        laid_product_lem i j hi hj =
            let place = pair_small count i j n.lay.list.few hi hj in
            sym (g.filled i j hi hj)
            ∙ ap (λ (x : ℕ). x + 1)
            (sym (h.kept.before (laid_products_base + (i * count + j)) (omega arith) ∙ f.kept.before (laid_products_base + (i * count + j)) (omega arith)))

        laid_image : (x : ℕ) → x < k → pair_image first n₁ second n₂ entry x ≡ (laid_pairs exit count k).image x + 1
        laid_image x l =
            sym (image_kept g.kept (omega arith) n.tables x l) ∙ sym (f.filled x l)
            ∙ ap (λ (y : ℕ). y + 1) (sym (h.kept.before (laid_images_base + x) (omega (arith, n.tables.first_is_table.letters_small))))

        table_laid : PairTable first n₁ second n₂ k entry count (laid_pairs exit count k)
        unfolding pair_product pair_image
        table_laid = record { same_size = refl; same_letters = refl; products = laid_product_lem; images = laid_image }

        pub all_laid : TableLaid first n₁ second n₂ k count entry exit
        all_laid = record {
          same_length = h.kept.same_length ∙ both_kept.same_length;
          table = table_laid;
          grades = λ t z ht hz. h.filled t z ht hz ∙ grades_kept grades_place both_kept (omega arith) (omega arith) t z ht hz;
        }

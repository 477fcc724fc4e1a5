-- The marks of the rule of the pairs are worked out from bytes that laying them out leaves as they were. Assumes nothing.
use Prim.Native.Nat.{ℕ, ◌+◌, ◌*◌, ◌≤◌, ◌<◌}
use mathlib.Core.Path.{◌≡◌, refl, sym, ap₂, ◌∙◌}
use mathlib.Core.List.{List}
use native.Mathlib.Omega.{arith}
use lib.ListN.{length}
use Rattle.promises.specs.declared.Operation.{Operation}
use Rattle.promises.specs.Combine.{combined_grade}
use Rattle.scratch.specs.Bytes.{UnchangedOutside}
use Rattle.scratch.specs.Map.{laid_products_base, laid_marks_base, second_base, search_end, marks_from}
use Rattle.scratch.proofs.Rows.{pair_small}
use Rattle.scratch.proofs.Unchanged.{unchanged_room}
use Rattle.pair_list.specs.Pairs.{left_at, right_at}
use Rattle.pair_table.specs.Layout.{HalvesNeeds}
use Rattle.pair_table.proofs.Kept.{left_kept, right_kept}
use Rattle.rule_laid.specs.Laid.{laid_table}
use Rattle.rule_laid.proofs.Laid.{linked_alike}
use Rattle.pair_marks.specs.Marks.{pair_grade, PairMark}

-- the place of a mark lies within scratch
pub mark_inside : {n₁ n₂ count : ℕ} {entry : List ℕ} → HalvesNeeds n₁ n₂ count entry → (i j : ℕ) → i < count → j < count → {from to : ℕ} {now : List ℕ}
    → UnchangedOutside from to entry now → laid_marks_base + i * 64 + j < length now
mark_inside p i j hi hj k = omega (arith, p.few, unchanged_room k p.room)

-- the grades of the closures are as they were, and so are the combined grades
pub grade_kept : {from to : ℕ} {entry now : List ℕ} → UnchangedOutside from to entry now → laid_products_base ≤ from → to ≤ search_end → {count : ℕ}
    → HalvesNeeds 64 64 count entry → (operation : Operation) (i j : ℕ) → i < count → j < count → pair_grade operation now i j ≡ pair_grade operation entry i j
unfolding pair_grade marks_from
grade_kept {entry = entry} {now} kept low l p operation i j hi hj =
    let few = p.few in
    let li = left_kept kept low i (omega arith) in
    let lj = left_kept kept low j (omega arith) in
    let ri = right_kept kept low i (omega arith) in
    let rj = right_kept kept low j (omega arith) in
    ap₂ (combined_grade operation)
    (ap₂ (marks_from now search_end) li lj ∙ kept.after (search_end + (left_at entry i * 64 + left_at entry j)) (omega arith))
    (ap₂ (marks_from now second_base) ri rj
    ∙ kept.before (second_base + (right_at entry i * 64 + right_at entry j)) (omega (arith, p.rights i hi, p.rights j hj)))

module _ {from to : ℕ} {entry now : List ℕ} (kept : UnchangedOutside from to entry now) (g : laid_marks_base ≤ from) where
  -- the products are, and so are the linked pairs
  pub product_kept : (count i j : ℕ) → count ≤ 64 → i < count → j < count → (laid_table now count).product i j ≡ (laid_table entry count).product i j
  product_kept count i j few hi hj = kept.before (laid_products_base + (i * count + j)) (omega (arith, pair_small count i j few hi hj))

  -- and so are the marks
  pub mark_kept : to ≤ search_end → {count : ℕ} → HalvesNeeds 64 64 count entry → (operation : Operation) (i j : ℕ) → i < count → j < count → {byte : ℕ}
      → PairMark operation count now i j byte → PairMark operation count entry i j byte
  mark_kept l {count} p operation i j hi hj m = record {
    of_linked = λ k. m.of_linked (linked_alike refl (λ x y. product_kept count x y p.few) k) ∙ grade_kept kept (omega arith) l p operation i j hi hj;
    of_others = λ f. m.of_others (λ k. f (linked_alike refl (λ x y hx hy. sym (product_kept count x y p.few hx hy)) k));
  }

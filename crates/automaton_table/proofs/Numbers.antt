-- The number of a product along the step by which its second factor was found: of a letter's own matrix it is where the letter leads
-- from the first factor, and of a product p · g where g leads from the product with p. Assumes nothing.
use Prim.Native.Nat.{ℕ, suc, ◌+◌, ◌*◌, ◌-◌, ◌<◌}
use mathlib.Core.Path.{◌≡◌, subst}
use mathlib.Core.Logic.{◌≢◌}
use mathlib.Core.List.{List}
use native.Mathlib.Numerals.{add-one}
use native.Mathlib.Omega.{arith}
use lib.ListN.{get_or}
use Rattle.buchi.specs.Matrices.{SameEntries, product}
use Rattle.buchi.proofs.Products.{product_same, product_along, same_refl, same_sym, same_trans}
use Rattle.automaton_matrices.specs.Bytes.{letter_entry}
use Rattle.automaton_matrix_search.specs.Lists.{matrix_at, next_at, parent_at, letter_at, step_entry}
use Rattle.automaton_table.specs.Laying.{StepNeeds, StepList, RowLaid, TableNumber}
use Rattle.scratch.proofs.Rows.{pair_small}

-- what was recorded of a list is there
pub step_place_lem : {kinds : List ℕ} {n count : ℕ} {scratch : List ℕ} → StepList kinds n scratch count → StepNeeds scratch count
step_place_lem {count = count} l = record {
  few = l.list.few;
  room = l.list.room;
  parents = λ j h. (l.recorded.sources j h).parent_before;
  letters = λ j h. omega (arith, (l.recorded.sources j h).letter_lt, l.few_letters);
  steps = λ i j hi hj. (l.recorded.steps (i + 1) _ (omega arith) (l.recorded.sources j hj).letter_lt).below;
}

-- ---- one step

module _ {kinds : List ℕ} {n count : ℕ} {scratch : List ℕ} (l : StepList kinds n scratch count) where
  -- where a letter leads from matrix i
  step_same : (i x : ℕ) → i < count → x < l.letters → SameEntries n (product n (matrix_at scratch i) (letter_entry kinds scratch x)) (matrix_at scratch (next_at scratch (i + 1) x))
  unfolding step_entry
  step_same i x h b =
      subst (λ p. SameEntries n (step_entry kinds n scratch p x) (matrix_at scratch (next_at scratch (i + 1) x))) (add-one i) (l.recorded.steps (i + 1) x (omega arith) b).same

  -- how matrix j was found
  source_same : (j p : ℕ) → j < count → parent_at scratch j ≡ p → SameEntries n (step_entry kinds n scratch p (letter_at scratch j)) (matrix_at scratch j)
  source_same j p h e = subst (λ p. SameEntries n (step_entry kinds n scratch p (letter_at scratch j)) (matrix_at scratch j)) e (l.recorded.sources j h).same

module _ {count i j : ℕ} {scratch : List ℕ} (place : StepNeeds scratch count) (hi : i < count) (hj : j < count) where
  pub letter_small : letter_at scratch j < 16
  letter_small = place.letters j hj

  -- a letter's own matrix
  pub letter_product : parent_at scratch j ≡ 0 → TableNumber count scratch i j (next_at scratch (i + 1) (letter_at scratch j))
  unfolding step_entry
  letter_product e = record {
    below = place.steps i j hi hj;
    is_of_product = λ kinds n l. record {
      below = place.steps i j hi hj;
      same = same_trans (product_same same_refl (same_sym (source_same l j 0 hj e))) (step_same l i (letter_at scratch j) hi (l.recorded.sources j hj).letter_lt);
    };
  }

  -- the matrix before the last letter
  module _ (row : RowLaid count scratch i j) (some : parent_at scratch j ≢ 0) where
    abbrev before : ℕ
    before = get_or scratch (16384 + i * count + (parent_at scratch j - 1)) 0

    earlier : parent_at scratch j - 1 < j
    earlier = omega (arith, place.parents j hj)

    number : TableNumber count scratch i (parent_at scratch j - 1) before
    number = row.numbers (parent_at scratch j - 1) earlier

    pub before_place : i * count + (parent_at scratch j - 1) < 4096
    before_place = let h = earlier in pair_small _ _ _ place.few hi (omega arith)

    pub before_below : get_or scratch (16384 + i * count + (parent_at scratch j - 1)) 0 < count
    before_below = number.below

    pub longer_product : TableNumber count scratch i j (next_at scratch (get_or scratch (16384 + i * count + (parent_at scratch j - 1)) 0 + 1) (letter_at scratch j))
    unfolding step_entry
    longer_product =
        let p = parent_at scratch j - 1 in
        let e : parent_at scratch j ≡ suc p = omega arith in
        record {
          below = place.steps before j before_below hj;
          is_of_product = λ kinds n l. record {
            below = place.steps before j before_below hj;
            same =
                product_along (matrix_at scratch i) (matrix_at scratch p) (letter_entry kinds scratch (letter_at scratch j)) (number.is_of_product kinds n l).same
                (source_same l j (suc p) hj e) (step_same l before (letter_at scratch j) before_below (l.recorded.sources j hj).letter_lt);
          };
        }

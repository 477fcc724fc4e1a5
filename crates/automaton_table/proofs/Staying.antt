-- What does not change while bytes behind the list of matrices and its records do: the records, and the numbers that the products have
-- in the list. Assumes nothing.
use Prim.Native.Nat.{ℕ, ◌+◌, ◌≤◌, ◌<◌}
use mathlib.Core.Path.{◌≡◌}
use mathlib.Core.List.{List}
use native.Mathlib.Omega.{arith}
use Rattle.buchi.proofs.Products.{product_same, same_sym, same_trans}
use Rattle.automaton_matrix_search.specs.Lists.{step_place, parent_place, letter_place, next_at, parent_at, letter_at, KeptBelow}
use Rattle.scratch.proofs.Unchanged.{unchanged_sym, unchanged_wider}
use Rattle.automaton_matrix_search.proofs.Staying.{matrix_stays, grown_stays}
use Rattle.automaton_matrix_list.proofs.Order.{number_grown, made_grown}
use Rattle.automaton_table.specs.Laying.{StepNeeds, StepList, ProductNumber, TableNumber}

module _ {a b : List ℕ} (kept : KeptBelow 16384 a b) where
  -- ---- what is recorded

  pub step_stays : (p x : ℕ) → p ≤ 64 → x < 16 → next_at b p x ≡ next_at a p x
  step_stays p x h l = kept.before (step_place p x) (omega arith)

  pub parent_stays : (j : ℕ) → j < 64 → parent_at b j ≡ parent_at a j
  parent_stays j h = kept.before (parent_place j) (omega arith)

  pub letter_stays : (j : ℕ) → j < 64 → letter_at b j ≡ letter_at a j
  letter_stays j h = kept.before (letter_place j) (omega arith)

  pub place_stays : {count : ℕ} → StepNeeds a count → StepNeeds b count
  place_stays l =
      let few = l.few in
      record {
        few = few;
        room = rw kept.same_length l.room;
        parents = λ j h. rw (parent_stays j (omega arith)) (l.parents j h);
        letters = λ j h. rw (letter_stays j (omega arith)) (l.letters j h);
        steps = λ i j hi hj.
            let small = l.letters j hj in
            rw (letter_stays j (omega arith), step_stays (i + 1) _ (omega arith) small) (l.steps i j hi hj);
      }

  pub steps_stay : {kinds : List ℕ} {n count : ℕ} → StepList kinds n a count → StepList kinds n b count
  steps_stay l =
      let few = l.list.few in
      let small = l.few_letters in
      let same = grown_stays (unchanged_wider (omega arith) (omega arith) kept) l.list in
      record {
        letters = l.letters;
        few_letters = l.few_letters;
        list = same.list;
        recorded = record {
          steps = λ p x hp hx. rw (step_stays p x (omega arith) (omega arith)) (number_grown same hp (omega arith) (l.recorded.steps p x hp hx));
          sources = λ j h. rw (parent_stays j (omega arith), letter_stays j (omega arith)) (made_grown same l.few_letters h (l.recorded.sources j h));
        };
      }

  -- ---- numbers

  pub product_number_stays : {n count i j r : ℕ} → n ≤ 6 → count ≤ 64 → i < count → j < count → ProductNumber n count a i j r → ProductNumber n count b i j r
  product_number_stays few small hi hj p =
      let below = p.below in
      let list : KeptBelow 12288 a b = unchanged_wider (omega arith) (omega arith) kept in
      record {
        below = p.below;
        same = same_trans (same_sym (product_same (matrix_stays list few (omega arith)) (matrix_stays list few (omega arith)))) (same_trans p.same (matrix_stays list few (omega arith)));
      }

pub number_stays : {a b : List ℕ} {count i j r : ℕ} → KeptBelow 16384 a b → count ≤ 64 → i < count → j < count → TableNumber count a i j r → TableNumber count b i j r
number_stays kept small hi hj t = record {
  below = t.below;
  is_of_product = λ kinds n l. product_number_stays kept l.list.few_states small hi hj (t.is_of_product kinds n (steps_stay (unchanged_sym kept) l));
}

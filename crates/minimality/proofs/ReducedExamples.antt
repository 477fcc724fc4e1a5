-- Reductions computed by the model: a rule that is its own, and two that shrink to one element. Assumes nothing.
use Prim.Native.Nat.{ℕ, ◌+◌, ◌*◌}
use mathlib.Core.Path.{◌≡◌, refl}
use mathlib.Core.Bool.{cond, ◌&&◌}
use mathlib.Core.List.{List, [], ◌∷◌}
use lib.ListN.{get_or}
use lib.Dec.{eqb, leb}
use Rattle.finite.specs.Search.{any_below}
use Rattle.finite.proofs.Search.{all_below, least_below, least_from}
use Rattle.theory.specs.Rules.{Morphism, Marking, level}
use Rattle.theory.proofs.Powers.{times, settled, settling, idempotent_of}
use Rattle.theory.proofs.Closure.{linked_test, closure_look, closure_test}
use Rattle.finite.proofs.Highest.{highest}
use Rattle.theory.proofs.ClosureGrades.{closure_grade}
use Rattle.minimality.proofs.GradeOutcomes.{grading}
use Rattle.minimality.proofs.Listed.{passing}
use Rattle.minimality.proofs.Blocks.{tab_from, least_of, same_test, products_test, kept_test, first_blocks, next_blocks}
use Rattle.minimality.proofs.Settle.{unchanged, settle_from, settle}
use Rattle.minimality.proofs.ReduceModel.{Model, heads, heads_of, place_of, model_of, final_blocks, reduce_model, reduced_size}
use Rattle.minimality.proofs.Saturation.{saturated}

-- a table of two elements, by rows, and the images of its letters
unfoldable pub two_by_two : ℕ → List ℕ → List ℕ → Morphism
two_by_two letters rows images = record {
  size = 2;
  letters = letters;
  product = λ s t. get_or rows (s * 2 + t) 0;
  image = λ a. get_or images a 0;
}

-- the pair (0, 0) alone, with a grade
unfoldable pub first_pair : ℕ → Marking
first_pair g s e = cond (eqb s 0 && eqb e 0) g 0

-- the pairs (0, 0), (0, 1) and (1, 1), with the grade 3
unfoldable pub three_pairs : Marking
three_pairs s e = cond (leb s e) 3 0

-- the same with different grades: the lassos of each are then told apart
unfoldable pub three_grades : Marking
three_grades s e = cond (leb s e) (1 + (s + e)) 0

-- letter 0 without end: an element is 0 exactly where the word has the letter 0
unfoldable pub letter_without_end : Morphism
unfolding two_by_two
letter_without_end = two_by_two 2 (0 ∷ 0 ∷ 0 ∷ 1 ∷ []) (0 ∷ 1 ∷ [])

-- one letter, and an element for words of even length and one for the others
unfoldable pub parity : Morphism
unfolding two_by_two
parity = two_by_two 1 (0 ∷ 1 ∷ 1 ∷ 0 ∷ []) (1 ∷ [])

-- a computed reduction to one element, that is marked with itself, with a grade
pub record OneElement (model : Model) (grade : ℕ) : Type 0 where
  pub size : model.morphism.size ≡ 1
  pub product : model.morphism.product 0 0 ≡ 0
  pub image : model.morphism.image 0 ≡ 0
  pub mark : model.marks 0 0 ≡ grade

-- the first rule has two elements after its reduction, and with three grades too; with every lasso graded 3 one is left, and so of the
-- parity, whose one grade stays what it is
pub record Computed : Type 0 where
  pub stays : reduced_size letter_without_end (first_pair 3) ≡ 2
  pub grades_stay : reduced_size letter_without_end three_grades ≡ 2
  pub all_shrinks : reduced_size letter_without_end three_pairs ≡ 1
  pub all_model : OneElement (reduce_model letter_without_end three_pairs) 3
  pub parity_shrinks : reduced_size parity (first_pair 2) ≡ 1
  pub parity_model : OneElement (reduce_model parity (first_pair 2)) 2

pub computed : Computed
unfolding reduced_size reduce_model model_of place_of saturated final_blocks heads_of heads settle settle_from unchanged first_blocks next_blocks least_of tab_from same_test products_test kept_test passing all_below any_below least_below least_from grading closure_grade highest level closure_test closure_look linked_test idempotent_of settling settled times two_by_two letter_without_end parity first_pair three_pairs three_grades
computed = record {
  stays = refl;
  grades_stay = refl;
  all_shrinks = refl;
  all_model = record { size = refl; product = refl; image = refl; mark = refl };
  parity_shrinks = refl;
  parity_model = record { size = refl; product = refl; image = refl; mark = refl };
}

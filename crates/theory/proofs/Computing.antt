-- One name that opens every test of this crate, so that a test of a given table can be computed: a proof that names it on
-- its `unfolding` line needs no list of what the tests are made of. Here too are the tests of a given lasso, and its grade as a number
-- that is computed. Assumes nothing.
use Prim.Native.Nat.{ℕ, ◌≤◌, ◌<◌}
use native.Mathlib.Omega.{arith}
use mathlib.Core.Path.{◌≡◌, subst}
use mathlib.Core.Bool.{Bool, true, ◌&&◌}
use mathlib.Core.List.{List, [], ◌∷◌}
use mathlib.Core.Logic.{◌↔◌, ◌⊎◌, inl, inr}
use lib.ListN.{length}
use lib.Dec.{T, ltb}
use mir.Facts.{ltb_yes}
use Rattle.finite.proofs.Tests.{T_and_left, T_and_right}
use Rattle.finite.specs.Search.{any_below}
use Rattle.finite.proofs.Search.{all_below, least_below, least_from, count_below}
use Rattle.finite.specs.Select.{select, select_from}
use Rattle.finite.proofs.Numbers.{le_or_lt}
use Rattle.finite.proofs.Highest.{highest, highest_le, highest_iff, Falling}
use Rattle.finite.proofs.Explore.{member, add, expand, walk, explore}
use Rattle.theory.specs.Words.{Over, over_nil, over_cons, Lasso}
use Rattle.theory.specs.Rules.{Morphism, Lawful, Pairs, Marking, level, join, value}
use Rattle.theory.specs.Acceptance.{Accepts}
use Rattle.theory.specs.Pairs.{LinkedOnly, pair_number}
use Rattle.theory.specs.Grades.{AtLeast, Graded}
use Rattle.theory.proofs.Powers.{times, settled, settling, idempotent_of}
use Rattle.theory.proofs.Turns.{turned}
use Rattle.theory.proofs.Membership.{turn_look, turn_test, cut_test, cut_look, accepts_test, accepts_test_intro, accepts_test_elim}
use Rattle.theory.proofs.Splits.{turn_square}
use Rattle.theory.proofs.Closure.{linked_test, closure_look, closure_test, acceptance}
use Rattle.theory.proofs.Searches.{some_in}
use Rattle.theory.proofs.Codes.{same_value, value_coded}
use Rattle.theory.proofs.ShortWords.{word_next, reached_values, reached_test, unreached}
use Rattle.theory.proofs.Comparison.{same_state, search_starts, next_unmarked, next_from, search_next, ended, search_states, escapes_test}
use Rattle.theory.proofs.Included.{included_test, strong_test}
use Rattle.theory.proofs.Gradings.{GradedMarks, at_least_falls, at_least_small, level_linked, graded_by}
use Rattle.theory.proofs.GradedStrength.{strong_grades_test}
use Rattle.theory.proofs.GradedInclusion.{included_grades_test}
use Rattle.theory.proofs.TableTests.{implies, all_pairs, closed_test, associates, associative_test, images_test, lawful_test, linked_only_test, only_pair, conjugate_test, no_less, least_test, linked_count, own_least, class_count}

-- the word has letters below k only, and the lasso's cycle is not empty
unfoldable pub over_test : ℕ → List ℕ → Bool
over_test k [] = true
over_test k (a ∷ w) = ltb a k && over_test k w

pub over_elim : (k : ℕ) (w : List ℕ) → T (over_test k w) → Over k w
unfolding over_test
over_elim k [] t = over_nil
over_elim k (a ∷ w) t = over_cons (ltb_yes (T_and_left (ltb a k) _ t)) (over_elim k w (T_and_right (ltb a k) _ t))

unfoldable pub lasso_test : ℕ → List ℕ → List ℕ → Bool
lasso_test k u v = (over_test k u && over_test k v) && ltb 0 (length v)

pub lasso_elim : (k : ℕ) (u v : List ℕ) → T (lasso_test k u v) → Lasso k u v
unfolding lasso_test
lasso_elim k u v t =
    let o = T_and_left (over_test k u && over_test k v) _ t in
    record {
      start_over = over_elim k u (T_and_left (over_test k u) _ o);
      cycle_over = over_elim k v (T_and_right (over_test k u) _ o);
      cycle_some = ltb_yes (T_and_right (over_test k u && over_test k v) _ t);
    }

-- the highest level that accepts the lasso
unfoldable pub lasso_grade : Morphism → Marking → List ℕ → List ℕ → ℕ
lasso_grade m marks u v = highest 3 (λ g. accepts_test m (level g marks) u v)

-- opens all of these
unfoldable pub computing : Bool
unfolding level join value pair_number highest lasso_grade strong_grades_test included_grades_test any_below all_below least_below least_from count_below select select_from member add expand walk explore times settled settling idempotent_of turned turn_look turn_test cut_test cut_look accepts_test turn_square linked_test closure_look closure_test acceptance some_in same_value value_coded word_next reached_values reached_test unreached same_state search_starts next_unmarked next_from search_next ended search_states escapes_test included_test strong_test implies all_pairs closed_test associates associative_test images_test lawful_test linked_only_test only_pair conjugate_test no_less least_test linked_count own_least class_count over_test lasso_test
computing = true

-- a lasso that passes is accepted, and one that fails is not
module _ {m : Morphism} (law : Lawful m) {P : Pairs} (linked : LinkedOnly m P) (u v : List ℕ) (t : T (lasso_test m.letters u v)) where
  lasso : Lasso m.letters u v
  lasso = lasso_elim m.letters u v t

  pub accepts_by : T (accepts_test m P u v) → Accepts m P u v
  accepts_by = accepts_test_elim law linked lasso.start_over lasso.cycle_over lasso.cycle_some

  pub refuses_by : ¬ T (accepts_test m P u v) → ¬ Accepts m P u v
  refuses_by f a = f (accepts_test_intro law linked lasso.start_over lasso.cycle_over lasso.cycle_some a)

-- and a lasso of a letter or more in its cycle has the grade that is computed
module _ {m : Morphism} {marks : Marking} (law : Lawful m) (good : GradedMarks m marks) (u v : List ℕ) (t : T (lasso_test m.letters u v)) where
  level_accepts : (g : ℕ) → 1 ≤ g → T (accepts_test m (level g marks) u v) → AtLeast m marks g u v
  level_accepts g some = accepts_by law (level_linked law good some) u v t

  accepts_level : (g : ℕ) → 1 ≤ g → AtLeast m marks g u v → T (accepts_test m (level g marks) u v)
  accepts_level g some =
      let l = lasso_elim m.letters u v t in
      accepts_test_intro law (level_linked law good some) l.start_over l.cycle_over l.cycle_some

  falling : Falling (λ g. accepts_test m (level g marks) u v)
  falling = record {
    falls = λ g h some l a. accepts_level g some (at_least_falls marks g h l (level_accepts h (let z : 1 ≤ h = omega arith in z) a));
  }

  pub graded_is : {n : ℕ} → lasso_grade m marks u v ≡ n → Graded m marks u v n
  unfolding lasso_grade
  graded_is {n} e = subst (Graded m marks u v) e (graded_by (λ g some. both g some (le_or_lt g 3)))
    where
      both : (g : ℕ) → 1 ≤ g → (g ≤ 3) ⊎ (3 < g) → AtLeast m marks g u v ↔ (g ≤ lasso_grade m marks u v)
      both g some (inl h) =
          let k = highest_iff (λ g. accepts_test m (level g marks) u v) 3 falling g some h in
          (λ a. k.0 (accepts_level g some a), λ l. level_accepts g some (k.1 l))
      both g some (inr h) = (
        λ a. absurd (omega (arith, at_least_small law good a)),
        λ l. absurd (omega (arith, highest_le (λ g. accepts_test m (level g marks) u v) 3)),
      )

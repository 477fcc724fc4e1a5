-- What the files of the small rules mean, found by computing the tests: that W and Z pass every check, which lassos they accept,
-- that W is strong and Z is not, and their linked pairs, classes and joins. Assumes nothing.
use Prim.Native.Nat.{ℕ}
use mathlib.Core.Path.{refl}
use mathlib.Core.Bool.{Bool, not, ◌||◌}
use mathlib.Core.Logic.{⊎_elim}
use mathlib.Core.List.{[], ◌∷◌}
use Rattle.finite.proofs.Tests.{T_or_cases, not_T}
use Rattle.answer.specs.Checks.{passed, FirstFailure}
use Rattle.theory.specs.Rules.{level}
use Rattle.theory.proofs.GradedStrength.{strong_grades_elim, strong_grades_intro}
use Rattle.theory.proofs.Closure.{linked_test, linked_intro}
use Rattle.theory.proofs.TableTests.{counts_by, all_pairs_elim, conjugate_elim}
use Rattle.theory.proofs.Computing.{lasso_elim, graded_is}
use Rattle.formats.specs.RuleFile.{morphism_of, marking_of}
use Rattle.formats.specs.RuleChecks.{rule_checks}
use Rattle.formats.proofs.GoodRule.{good_rule, graded_marks, GoodRule}
use Rattle.theory.specs.Pairs.{ClassCounts}
use Rattle.examples.specs.Files.{W, W_all, Z, Z₀}
use Rattle.examples.specs.Examples.{FileStrong, AcceptsLasso, RefusesLasso, ValuePair, ConjugateToMark, NotClosed, MarksLinked}
use Rattle.examples.proofs.Passing.{rule_passes}
use Rattle.examples.proofs.Reading.{reading}

-- ---- every check passes

pub W_passes : FirstFailure (rule_checks 1 W) passed
unfolding reading
W_passes = rule_passes W tt

pub W_all_passes : FirstFailure (rule_checks 1 W_all) passed
unfolding reading
W_all_passes = rule_passes W_all tt

pub Z_passes : FirstFailure (rule_checks 1 Z) passed
unfolding reading
Z_passes = rule_passes Z tt

pub Z₀_passes : FirstFailure (rule_checks 1 Z₀) passed
unfolding reading
Z₀_passes = rule_passes Z₀ tt

pub W_good : GoodRule W
W_good = good_rule 1 W W_passes

pub W_all_good : GoodRule W_all
W_all_good = good_rule 1 W_all W_all_passes

pub Z_good : GoodRule Z
Z_good = good_rule 1 Z Z_passes

pub Z₀_good : GoodRule Z₀
Z₀_good = good_rule 1 Z₀ Z₀_passes

-- ---- linked pairs, classes and joins

-- each pair that is linked is marked
marked_if_linked : ℕ → ℕ → Bool
marked_if_linked s e = not (linked_test (morphism_of W_all) s e) || level 1 (marking_of W_all) s e

pub W_all_marks : MarksLinked W_all
unfolding reading marked_if_linked
W_all_marks = record {
  marks = λ s e hs he. (
    W_all_good.linked.linked s e hs he,
    λ l. ⊎_elim (λ f. absurd (not_T (linked_test (morphism_of W_all) s e) f (linked_intro l))) (λ t. t)
        (T_or_cases (not (linked_test (morphism_of W_all) s e)) (level 1 (marking_of W_all) s e) (all_pairs_elim 2 marked_if_linked tt s e hs he)),
  );
}

pub W_counts : ClassCounts (morphism_of W) 3 3 0
unfolding reading
W_counts = counts_by W_good.lawful refl

pub Z_counts : ClassCounts (morphism_of Z) 2 1 1
unfolding reading
Z_counts = counts_by Z_good.lawful refl

-- ---- lassos

pub W_accepts : AcceptsLasso W (1 ∷ []) (0 ∷ [])
unfolding reading
W_accepts = record {
  lasso = lasso_elim 2 (1 ∷ []) (0 ∷ []) tt;
  graded = graded_is W_good.lawful (graded_marks W_good) (1 ∷ []) (0 ∷ []) tt refl;
}

pub W_refuses : RefusesLasso W (0 ∷ []) (1 ∷ [])
unfolding reading
W_refuses = record {
  lasso = lasso_elim 2 (0 ∷ []) (1 ∷ []) tt;
  graded = graded_is W_good.lawful (graded_marks W_good) (0 ∷ []) (1 ∷ []) tt refl;
}

pub Z_refuses : RefusesLasso Z (0 ∷ []) (1 ∷ [])
unfolding reading
Z_refuses = record {
  lasso = lasso_elim 2 (0 ∷ []) (1 ∷ []) tt;
  graded = graded_is Z_good.lawful (graded_marks Z_good) (0 ∷ []) (1 ∷ []) tt refl;
}

pub Z_accepts : AcceptsLasso Z (0 ∷ []) (0 ∷ 0 ∷ [])
unfolding reading
Z_accepts = record {
  lasso = lasso_elim 2 (0 ∷ []) (0 ∷ 0 ∷ []) tt;
  graded = graded_is Z_good.lawful (graded_marks Z_good) (0 ∷ []) (0 ∷ 0 ∷ []) tt refl;
}

-- both lassos have the values 1 and 0
pub Z_pair : ValuePair Z (0 ∷ []) (1 ∷ []) 1 0
unfolding reading
Z_pair = record { start_value = refl; cycle_value = refl }

pub Z_same_pair : ValuePair Z (0 ∷ []) (0 ∷ 0 ∷ []) 1 0
unfolding reading
Z_same_pair = record { start_value = refl; cycle_value = refl }

pub Z_conjugate : ConjugateToMark Z 1 0 0 0
unfolding reading
Z_conjugate = record { conjugate = conjugate_elim Z_good.lawful 1 0 0 0 tt; has_mark = tt }

-- ---- strength

pub W_strong : FileStrong W
unfolding reading
W_strong = strong_grades_elim W_good.lawful (graded_marks W_good) tt

pub W_all_strong : FileStrong W_all
unfolding reading
W_all_strong = strong_grades_elim W_all_good.lawful (graded_marks W_all_good) tt

pub Z_weak : FileStrong Z → ⊥
unfolding reading
Z_weak = strong_grades_intro Z_good.lawful (graded_marks Z_good) Z_good.reached

pub Z₀_strong : FileStrong Z₀
unfolding reading
Z₀_strong = strong_grades_elim Z₀_good.lawful (graded_marks Z₀_good) tt

-- the mark (0, 0) of Z with letter 0 only has the conjugate (1, 0)
pub Z₀_not_closed : NotClosed Z₀
unfolding reading
Z₀_not_closed = record {
  start = 1;
  cycle = 0;
  marked_start = 0;
  marked_cycle = 0;
  to_mark = record { conjugate = conjugate_elim Z₀_good.lawful 1 0 0 0 tt; has_mark = tt };
  not_marked = λ t. t;
}

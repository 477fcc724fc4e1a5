-- The small rules held against the definitions, by computing the tests: the grades that W and Z give lassos, that W is strong and Z
-- is not, their linked pairs, classes and joins, and markings of W compared. Assumes nothing.
use Prim.Native.Nat.{ℕ}
use mathlib.Core.Path.{◌≡◌, refl}
use mathlib.Core.List.{[], ◌∷◌}
use native.Mathlib.Omega.{arith}
use lib.Dec.{T}
use Rattle.theory.specs.Rules.{Morphism, Pairs, level, value}
use Rattle.theory.specs.Pairs.{power, Conjugate, ClassCounts}
use Rattle.theory.specs.Grades.{AtLeast, Graded, RuleStrong}
use Rattle.theory.specs.Smallest.{SameGrades}
use Rattle.theory.specs.Inclusion.{Included, Witness, IncludedGrades, HigherGraded}
use Rattle.theory.proofs.Strength.{Closed}
use Rattle.theory.proofs.Closure.{closure_elim}
use Rattle.theory.proofs.Included.{FoundWitness, included_refuted, witness_refutes}
use Rattle.theory.proofs.Gradings.{graded_levels, strong_grade, one_grade}
use Rattle.theory.proofs.GradedStrength.{strong_grades_elim, strong_grades_intro}
use Rattle.theory.proofs.GradedInclusion.{included_grades_elim}
use Rattle.theory.proofs.TableTests.{counts_by, conjugate_elim}
use Rattle.theory.proofs.Computing.{computing, lasso_elim, graded_is}
use Rattle.theory.proofs.SmallRules.{entry, marks, W, Z, Z₀, no_marks, first_mark, three_marks, three_grades, lower_grade, W_sound, W_all_sound, Z_sound, Z₀_sound, W_grades, W_all_grades, W_graded_grades, W_lower_grades, Z_grades, Z₀_grades, W_rule, W_all, W_graded, Z_rule, Z₀_rule}
use Rattle.theory.proofs.EveryLasso.{GradesEvery, every_elim, every_test, every_same, one_every, one_rule}

-- M1: W has 3 linked pairs, 3 classes and 0 joins
pub W_counts : ClassCounts W 3 3 0
unfolding computing
W_counts = counts_by W_sound.lawful refl

-- M1: W is strong
pub W_strong : RuleStrong W_rule
unfolding computing
W_strong = strong_grades_elim W_sound.lawful W_grades tt

-- M2: W gives 1 and then 0 for ever grade 3
pub W_zeros : Graded W (entry first_mark) (1 ∷ []) (0 ∷ []) 3
unfolding computing
W_zeros = graded_is W_sound.lawful W_grades (1 ∷ []) (0 ∷ []) tt refl

-- M3: and 0 and then 1 for ever grade 0
pub W_ones : Graded W (entry first_mark) (0 ∷ []) (1 ∷ []) 0
unfolding computing
W_ones = graded_is W_sound.lawful W_grades (0 ∷ []) (1 ∷ []) tt refl

-- so at the first level, and at every one, W accepts the first and not the second
pub W_accepts : AtLeast W (entry first_mark) 1 (1 ∷ []) (0 ∷ [])
W_accepts = (graded_levels W_zeros 1 (omega arith)).1 (omega arith)

pub W_refuses : ¬ AtLeast W (entry first_mark) 1 (0 ∷ []) (1 ∷ [])
W_refuses = W_ones.highest 1 (omega arith)

-- with an empty start: 0 for ever has grade 3, and 1 for ever grade 0
pub W_zeros_only : Graded W (entry first_mark) [] (0 ∷ []) 3
unfolding computing
W_zeros_only = graded_is W_sound.lawful W_grades [] (0 ∷ []) tt refl

pub W_ones_only : Graded W (entry first_mark) [] (1 ∷ []) 0
unfolding computing
W_ones_only = graded_is W_sound.lawful W_grades [] (1 ∷ []) tt refl

-- W with three grades is strong, and each grade is some lasso's
pub W_graded_strong : RuleStrong W_graded
unfolding computing
W_graded_strong = strong_grades_elim W_sound.lawful W_graded_grades tt

pub graded_zeros : Graded W (entry three_grades) (1 ∷ []) (0 ∷ []) 3
unfolding computing
graded_zeros = graded_is W_sound.lawful W_graded_grades (1 ∷ []) (0 ∷ []) tt refl

pub graded_ones : Graded W (entry three_grades) (0 ∷ []) (1 ∷ []) 1
unfolding computing
graded_ones = graded_is W_sound.lawful W_graded_grades (0 ∷ []) (1 ∷ []) tt refl

pub graded_ones_only : Graded W (entry three_grades) [] (1 ∷ []) 2
unfolding computing
graded_ones_only = graded_is W_sound.lawful W_graded_grades [] (1 ∷ []) tt refl

-- with the first pair one grade lower so is the lasso
pub lower_zeros : Graded W (entry lower_grade) (1 ∷ []) (0 ∷ []) 2
unfolding computing
lower_zeros = graded_is W_sound.lawful W_lower_grades (1 ∷ []) (0 ∷ []) tt refl

-- M4: W with its three linked pairs marked is strong and gives every lasso grade 3, as the rule of one element does
pub W_all_strong : RuleStrong W_all
unfolding computing
W_all_strong = strong_grades_elim W_all_sound.lawful W_all_grades tt

pub W_all_every : GradesEvery W (entry three_marks)
unfolding computing every_test
W_all_every = every_elim W_all_sound.lawful W_all_sound.reached W_all_grades W_all_strong tt

pub W_all_same : SameGrades W_all (one_rule 2)
W_all_same = every_same W_all (one_rule 2) refl W_all_every (one_every 2)

-- M5: Z has 2 linked pairs, 1 class and 1 join
pub Z_counts : ClassCounts Z 2 1 1
unfolding computing
Z_counts = counts_by Z_sound.lawful refl

-- the second power of 1 in Z is 0, and the third is 1
pub record PowersOf (m : Morphism) (x second third : ℕ) : Type 0 where
  pub first_power : power m x 0 ≡ x
  pub second_power : power m x 1 ≡ second
  pub third_power : power m x 2 ≡ third

pub Z_powers : PowersOf Z 1 0 1
unfolding power
Z_powers = record { first_power = refl; second_power = refl; third_power = refl }

-- M6: Z gives 0 and then 1 for ever grade 0, though its pair (1, 0) is conjugate to the mark (0, 0)
pub Z_ones : Graded Z (entry first_mark) (0 ∷ []) (1 ∷ []) 0
unfolding computing
Z_ones = graded_is Z_sound.lawful Z_grades (0 ∷ []) (1 ∷ []) tt refl

pub Z_conjugate : Conjugate Z 1 0 0 0
unfolding computing
Z_conjugate = conjugate_elim Z_sound.lawful 1 0 0 0 tt

-- with an empty start: Z gives 1 for ever grade 3
pub Z_ones_only : Graded Z (entry first_mark) [] (1 ∷ []) 3
unfolding computing
Z_ones_only = graded_is Z_sound.lawful Z_grades [] (1 ∷ []) tt refl

-- M6: Z gives 0 and then 0 0 for ever grade 3, and the values are the same
pub Z_zeros : Graded Z (entry first_mark) (0 ∷ []) (0 ∷ 0 ∷ []) 3
unfolding computing
Z_zeros = graded_is Z_sound.lawful Z_grades (0 ∷ []) (0 ∷ 0 ∷ []) tt refl

pub Z_values : value Z (0 ∷ 0 ∷ []) ≡ value Z (1 ∷ [])
unfolding computing
Z_values = refl

-- M6: so Z is not strong; the test says so too
pub Z_weak : ¬ RuleStrong Z_rule
unfolding computing
Z_weak strong =
    let l = lasso_elim 2 (0 ∷ []) (0 ∷ 0 ∷ []) tt in
    let l' = lasso_elim 2 (0 ∷ []) (1 ∷ []) tt in
    let e : ◌≡◌ {A = ℕ} 3 0 = one_grade (strong_grade strong l l' refl Z_values Z_zeros) Z_ones in
    omega arith

pub Z_weak_by_test : ¬ RuleStrong Z_rule
unfolding computing
Z_weak_by_test = strong_grades_intro Z_sound.lawful Z_grades Z_sound.reached

-- M7: Z with letter 0 only is strong
pub Z₀_strong : RuleStrong Z₀_rule
unfolding computing
Z₀_strong = strong_grades_elim Z₀_sound.lawful Z₀_grades tt

-- a pair that is conjugate to a marked one and is not marked
pub record NotClosed (m : Morphism) (P : Pairs) (s e : ℕ) : Type 0 where
  pub in_closure : Closed m P s e
  pub not_marked : ¬ T (P s e)

-- M7: though its marks are not closed
pub Z₀_not_closed : NotClosed Z₀ (marks first_mark) 1 0
unfolding computing
Z₀_not_closed = record { in_closure = closure_elim Z₀_sound.lawful Z₀_sound.linked 1 0 tt; not_marked = λ t. t }

-- M7: it gives every lasso grade 3
pub Z₀_every : GradesEvery Z₀ (entry first_mark)
unfolding computing every_test
Z₀_every = every_elim Z₀_sound.lawful Z₀_sound.reached Z₀_grades Z₀_strong tt

-- W with one mark is included in W with three, and not the other way: a witness is found
pub W_included : IncludedGrades W (entry first_mark) (entry three_marks)
unfolding computing
W_included = included_grades_elim W_sound.lawful W_grades W_all_grades tt

pub W_witness : FoundWitness W (marks three_marks) (marks first_mark)
unfolding computing
W_witness = included_refuted W_sound.lawful W_all_sound.linked W_sound.linked W_sound.reached (λ t. t)

pub W_not_included : ¬ Included W (marks three_marks) (marks first_mark)
W_not_included = witness_refutes W_witness

-- W with one pair a grade lower is included in W with three grades
pub W_lower_included : IncludedGrades W (entry lower_grade) (entry three_grades)
unfolding computing
W_lower_included = included_grades_elim W_sound.lawful W_lower_grades W_graded_grades tt

-- 0 0 and then eight letters 0 for ever is a witness of W against no marks: both words are as long as they may be
W_long : Graded W (entry first_mark) (0 ∷ 0 ∷ []) (0 ∷ 0 ∷ 0 ∷ 0 ∷ 0 ∷ 0 ∷ 0 ∷ 0 ∷ []) 3
unfolding computing
W_long = graded_is W_sound.lawful W_grades (0 ∷ 0 ∷ []) (0 ∷ 0 ∷ 0 ∷ 0 ∷ 0 ∷ 0 ∷ 0 ∷ 0 ∷ []) tt refl

pub W_long_witness : Witness W (level 3 (entry first_mark)) (level 3 (entry no_marks)) (0 ∷ 0 ∷ []) (0 ∷ 0 ∷ 0 ∷ 0 ∷ 0 ∷ 0 ∷ 0 ∷ 0 ∷ [])
unfolding computing
W_long_witness = record {
  lasso = lasso_elim 2 (0 ∷ 0 ∷ []) (0 ∷ 0 ∷ 0 ∷ 0 ∷ 0 ∷ 0 ∷ 0 ∷ 0 ∷ []) tt;
  start_some = omega arith;
  start_short = omega arith;
  cycle_short = omega arith;
  accepted_first = W_long.attained (omega arith);
  refused_second = λ a. a.has_mark;
}

-- so it is graded higher by the first
pub W_higher : HigherGraded W (entry first_mark) (entry no_marks) (0 ∷ 0 ∷ []) (0 ∷ 0 ∷ 0 ∷ 0 ∷ 0 ∷ 0 ∷ 0 ∷ 0 ∷ [])
W_higher = record { least = 3; some = omega arith; witness = W_long_witness }

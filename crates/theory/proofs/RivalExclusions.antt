-- What the definitions of same grades, renumbering, smallest rule, reduction, marks by grades and complement leave out: for each a case
-- that it excludes, and for one that asks several things a case for each. Assumes nothing.
use Prim.Native.Nat.{ℕ, zero, suc, ◌-◌, ◌<◌}
use mathlib.Core.Path.{◌≡◌, refl, sym, ap, ◌∙◌}
use mathlib.Core.List.{List, [], ◌∷◌}
use native.Mathlib.Omega.{arith}
use Rattle.theory.specs.Words.{Lasso}
use Rattle.theory.specs.Rules.{Morphism, Marking, Rule, element, value}
use Rattle.theory.specs.Pairs.{Linked}
use Rattle.theory.specs.Grades.{Graded}
use Rattle.theory.specs.Smallest.{SameGrades, Renumbered, Smallest, MarksGrades, Reduction, Turned, Complement}
use Rattle.theory.proofs.Closure.{linked_elim}
use Rattle.theory.proofs.Gradings.{GradedMarks, one_grade, strong_lassos, same_grade}
use Rattle.theory.proofs.Computing.{computing, lasso_elim, graded_is}
use Rattle.theory.proofs.SmallRules.{entry, table, marks, meet_rows, parity_rows, W, Z, Z₀, W₀, no_marks, first_mark, three_marks, three_grades, turned_grades, four_marks, two_grades, Sound, small_rule_sound, sound_test, grades_test, sound_grades, W_sound, Z₀_sound, W_grades, W_graded_grades, W_rule, W_all, W_graded, W_lower, Z_rule}
use Rattle.theory.proofs.EveryLasso.{GradesEvery, one_strong, one, one_every, one_rule}
use Rattle.theory.proofs.Examples.{W_ones, W_graded_strong, graded_zeros, graded_ones, lower_zeros, W_all_every, W_all_same, Z_weak, Z₀_every}
use Rattle.theory.proofs.Exclusions.{no_word, not_stays}

-- W gives 0 and then 1 for ever grade 0, to which every rule gives 3 that gives it to every lasso of two letters
not_every : (r : Rule) → r.morphism.letters ≡ 2 → GradesEvery r.morphism r.marks → ¬ SameGrades W_rule r
unfolding computing
not_every r e a s =
    let l : Lasso 2 (0 ∷ []) (1 ∷ []) = lasso_elim 2 (0 ∷ []) (1 ∷ []) tt in
    let g : ◌≡◌ {A = ℕ} 0 3 = one_grade (same_grade W_rule r s l W_ones) (a.graded (0 ∷ []) (1 ∷ []) (rw e l)) in
    omega arith

-- W gives other grades than with all its linked pairs marked, and other grades than the rule of one element
pub not_same_grades : ¬ SameGrades W_rule W_all
not_same_grades = not_every W_all refl W_all_every

pub not_same_one : ¬ SameGrades W_rule (one_rule 2)
not_same_one = not_every (one_rule 2) refl (one_every 2)

-- nor does W with three grades give the same where one pair has 2 in place of 3
pub one_grade_apart : ¬ SameGrades W_graded W_lower
unfolding computing
one_grade_apart s =
    let l : Lasso 2 (1 ∷ []) (0 ∷ []) = lasso_elim 2 (1 ∷ []) (0 ∷ []) tt in
    let g : ◌≡◌ {A = ℕ} 3 2 = one_grade (same_grade W_graded W_lower s l graded_zeros) lower_zeros in
    omega arith

-- rules over different letters do not give the same grades
pub not_same_letters : ¬ SameGrades (one_rule 1) (one_rule 2)
not_same_letters s = omega (arith, s.same_letters)

-- no renumbering: other images, another product, a map that is not one-to-one, one that is not onto, other letters
pub other_images : ¬ Renumbered W (table meet_rows (1 ∷ 0 ∷ []))
other_images r =
    let a : r.to 0 ≡ 1 = r.images 0 (omega arith) in
    let b : r.to 1 ≡ 0 = r.images 1 (omega arith) in
    let e : ◌≡◌ {A = ℕ} 1 0 = sym a ∙ r.products 0 1 (omega arith) (omega arith) ∙ ap (λ (x : ℕ). W.product x (r.to 1)) a ∙ ap (W.product 1) b in
    omega arith

pub other_products : ¬ Renumbered W (table parity_rows (0 ∷ 1 ∷ []))
other_products r =
    let b : r.to 1 ≡ 1 = r.images 1 (omega arith) in
    let e : ◌≡◌ {A = ℕ} 1 0 = sym b ∙ r.products 1 1 (omega arith) (omega arith) ∙ ap (λ (x : ℕ). Z.product x x) b in
    omega arith

pub not_one_to_one : ¬ Renumbered W (one 2)
not_one_to_one r =
    let e : ◌≡◌ {A = ℕ} 0 1 = r.one_to_one 0 1 (omega arith) (omega arith)
    (omega (arith, r.inside 0 (omega arith), r.inside 1 (omega arith))) in
    omega arith

pub not_onto : ¬ Renumbered (one 2) (table meet_rows (0 ∷ 0 ∷ []))
not_onto r =
    let (a, ha, ea) = r.onto 0 (omega arith) in
    let (b, hb, eb) = r.onto 1 (omega arith) in
    let g : a ≡ b = omega arith in
    let e : ◌≡◌ {A = ℕ} 0 1 = sym ea ∙ ap r.to g ∙ eb in
    omega arith

pub other_letters : ¬ Renumbered (one 1) (one 2)
other_letters r = omega (arith, r.same_letters)

-- W with all its linked pairs marked is not the smallest: the rule of one element gives the same grades
pub not_smallest : ¬ Smallest W_all
not_smallest s = omega (arith, s.at_least (one_rule 2) (one_strong 2) W_all_same)

-- Z is not the smallest, as it is not strong
pub weak_not_smallest : ¬ Smallest Z_rule
weak_not_smallest s = Z_weak s.strong

-- no copy of W with all its linked pairs marked is a reduction, and the rule of one element is none of W
pub copy_no_reduction : {r : Rule} → ¬ Reduction r W_all
copy_no_reduction k = not_smallest k.smallest

pub one_no_reduction : ¬ Reduction W_rule (one_rule 2)
one_no_reduction k = not_same_one k.same

-- ---- marks by grades

-- a linked pair is marked with the grade of a lasso that has its values
marked_grade : {m : Morphism} {marking : Marking} {s e g : ℕ} (u v : List ℕ) → MarksGrades m marking → Linked m s e → Lasso m.letters u v
    → value m u ≡ element s → value m v ≡ element e → Graded m marking u v g → marking s e ≡ g
marked_grade {s = s} {e} u v k l lasso eu ev graded = one_grade ((k.of_linked s e l).lassos.graded u v lasso eu ev) graded

-- the mark of Z with letter 0 only leaves out the linked pair (1, 0), whose lassos have grade 3
pub mark_left_out : ¬ MarksGrades Z₀ (entry first_mark)
unfolding computing
mark_left_out k =
    let l : Lasso 1 (0 ∷ []) (0 ∷ 0 ∷ []) = lasso_elim 1 (0 ∷ []) (0 ∷ 0 ∷ []) tt in
    let e : ◌≡◌ {A = ℕ} 0 3 = marked_grade (0 ∷ []) (0 ∷ 0 ∷ []) k (linked_elim Z₀ 1 0 tt) l refl refl (Z₀_every.graded (0 ∷ []) (0 ∷ 0 ∷ []) l) in
    omega arith

-- with 2 it is too low; too high no mark can be, as it gives its grade to the lassos with its values
Z₀_two_sound : Sound Z₀ (marks (two_grades 3 2))
unfolding sound_test
Z₀_two_sound = small_rule_sound Z₀ (marks (two_grades 3 2)) tt

Z₀_two_grades : GradedMarks Z₀ (entry (two_grades 3 2))
unfolding grades_test
Z₀_two_grades = sound_grades Z₀ (entry (two_grades 3 2)) Z₀_two_sound tt

pub mark_too_low : ¬ MarksGrades Z₀ (entry (two_grades 3 2))
unfolding computing
mark_too_low k =
    let l : Lasso 1 (0 ∷ []) (0 ∷ 0 ∷ []) = lasso_elim 1 (0 ∷ []) (0 ∷ 0 ∷ []) tt in
    let graded : Graded Z₀ (entry (two_grades 3 2)) (0 ∷ []) (0 ∷ 0 ∷ []) 3 = graded_is Z₀_sound.lawful Z₀_two_grades (0 ∷ []) (0 ∷ 0 ∷ []) tt refl in
    let e : ◌≡◌ {A = ℕ} 2 3 = marked_grade (0 ∷ []) (0 ∷ 0 ∷ []) k (linked_elim Z₀ 1 0 tt) l refl refl graded in
    omega arith

-- a linked pair needs lassos with its values
pub mark_of_no_lasso : {marking : Marking} → ¬ MarksGrades W₀ marking
unfolding computing
mark_of_no_lasso k = no_word (k.of_linked 1 1 (linked_elim W₀ 1 1 tt)).lassos.start

-- and a pair that is not linked is not to be marked
pub mark_not_linked : ¬ MarksGrades W (entry four_marks)
mark_not_linked k =
    let e : ◌≡◌ {A = ℕ} 3 0 = k.of_others 1 0 (omega arith) (omega arith) not_stays in
    omega arith

-- ---- the complement

-- a linked pair gets 3 less the grade of a lasso that has its values
turned_grade : {m : Morphism} {marking turned : Marking} {s e g : ℕ} (u v : List ℕ) → Complement m marking turned → Linked m s e → Lasso m.letters u v
    → value m u ≡ element s → value m v ≡ element e → Graded m marking u v g → turned s e ≡ 3 - g
turned_grade {s = s} {e} u v c l lasso eu ev graded =
    let t = c.of_linked s e l in
    omega (arith, t.turned, one_grade (t.graded.lassos.graded u v lasso eu ev) graded)

-- W's complement does not mark (0, 0), whose lassos have grade 3
pub complement_too_much : ¬ Complement W (entry first_mark) (entry three_marks)
unfolding computing
complement_too_much c =
    let graded : Graded W (entry first_mark) (0 ∷ []) (0 ∷ []) 3 = graded_is W_sound.lawful W_grades (0 ∷ []) (0 ∷ []) tt refl in
    let e : ◌≡◌ {A = ℕ} 3 0 = turned_grade (0 ∷ []) (0 ∷ []) c (linked_elim W 0 0 tt) (lasso_elim 2 (0 ∷ []) (0 ∷ []) tt) refl refl graded in
    omega arith

-- and does mark (0, 1), whose lassos have grade 0
pub complement_too_little : ¬ Complement W (entry first_mark) (entry no_marks)
unfolding computing
complement_too_little c =
    let e : ◌≡◌ {A = ℕ} 0 3 = turned_grade (0 ∷ []) (1 ∷ []) c (linked_elim W 0 1 tt) (lasso_elim 2 (0 ∷ []) (1 ∷ []) tt) refl refl W_ones in
    omega arith

-- with three grades it gives each linked pair 3 less the grade
pub W_complement : Complement W (entry three_grades) (entry turned_grades)
unfolding computing
W_complement = record { of_linked = turned; of_others = others }
  where
    -- a pair of elements with words of these values
    at : (s e g : ℕ) (u v : List ℕ) → Linked W s e → Lasso 2 u v → value W u ≡ element s → value W v ≡ element e → Graded W (entry three_grades) u v g
        → Turned W (entry three_grades) s e (3 - g)
    at s e g u v l lasso eu ev k =
        record { grade = g; graded = record { linked = l; lassos = strong_lassos u v W_graded_strong lasso eu ev k }; turned = refl }

    turned : (s e : ℕ) → Linked W s e → Turned W (entry three_grades) s e (entry turned_grades s e)
    turned zero zero l =
        at 0 0 3 (0 ∷ []) (0 ∷ []) l (lasso_elim 2 (0 ∷ []) (0 ∷ []) tt) refl refl (graded_is W_sound.lawful W_graded_grades (0 ∷ []) (0 ∷ []) tt refl)
    turned zero (suc zero) l = at 0 1 1 (0 ∷ []) (1 ∷ []) l (lasso_elim 2 (0 ∷ []) (1 ∷ []) tt) refl refl graded_ones
    turned (suc zero) (suc zero) l =
        at 1 1 2 (1 ∷ []) (1 ∷ []) l (lasso_elim 2 (1 ∷ []) (1 ∷ []) tt) refl refl (graded_is W_sound.lawful W_graded_grades (1 ∷ []) (1 ∷ []) tt refl)
    turned (suc zero) zero l = absurd (not_stays l)
    turned (suc (suc s)) e l = absurd (omega (arith, l.inside))
    turned zero (suc (suc e)) l = absurd (omega (arith, l.idempotent.inside))
    turned (suc zero) (suc (suc e)) l = absurd (omega (arith, l.idempotent.inside))

    others : (s e : ℕ) → s < 2 → e < 2 → (Linked W s e → ⊥) → entry turned_grades s e ≡ 0
    others zero zero hs he f = refl
    others zero (suc zero) hs he f = absurd (f (linked_elim W 0 1 tt))
    others (suc zero) zero hs he f = refl
    others (suc zero) (suc zero) hs he f = absurd (f (linked_elim W 1 1 tt))
    others (suc (suc s)) e hs he f = absurd (omega arith)
    others zero (suc (suc e)) hs he f = absurd (omega arith)
    others (suc zero) (suc (suc e)) hs he f = absurd (omega arith)

-- so (0, 1), whose lassos have grade 1, gets 2: not what it had, and not 2 less that
complement_one : {turned : Marking} → Complement W (entry three_grades) turned → turned 0 1 ≡ 2
unfolding computing
complement_one c = turned_grade (0 ∷ []) (1 ∷ []) c (linked_elim W 0 1 tt) (lasso_elim 2 (0 ∷ []) (1 ∷ []) tt) refl refl graded_ones

pub complement_kept : ¬ Complement W (entry three_grades) (entry three_grades)
complement_kept c =
    let e : ◌≡◌ {A = ℕ} 1 2 = complement_one c in
    omega arith

pub complement_of_two : ¬ Complement W (entry three_grades) (λ s e. 2 - entry three_grades s e)
complement_of_two c =
    let e : ◌≡◌ {A = ℕ} 1 2 = complement_one c in
    omega arith

-- and no pair that is not linked is marked
pub complement_not_linked : {marking : Marking} → ¬ Complement W marking (entry four_marks)
complement_not_linked c =
    let e : ◌≡◌ {A = ℕ} 3 0 = c.of_others 1 0 (omega arith) (omega arith) not_stays in
    omega arith

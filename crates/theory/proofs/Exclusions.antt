-- What the definitions of tables, levels, lassos, acceptance, pairs, counts, grades, strength and inclusion leave out: for each a case
-- that it excludes, and for one that asks several things a case for each. Assumes nothing.
use Prim.Native.Nat.{ℕ, zero, suc, ◌≤◌}
use mathlib.Core.Path.{◌≡◌, refl, sym, subst}
use mathlib.Core.List.{List, [], ◌∷◌}
use native.Mathlib.Omega.{arith}
use lib.Dec.{T}
use Rattle.theory.specs.Words.{Over, over_cons, Lasso}
use Rattle.theory.specs.Rules.{Morphism, Lawful, Pairs, Marking, level, Value, none, element, join, value, WordOf, AllReached}
use Rattle.theory.specs.Acceptance.{Accepts, Strong}
use Rattle.theory.specs.Pairs.{Idempotent, power, HasIdempotentPower, LeastExponent, TurnsOf, Linked, LinkedOnly, Conjugate, LeastConjugate, Counted, counted_none, counted_one, counted_other, ClassCounts}
use Rattle.theory.specs.Grades.{AtLeast, Graded, StrongMarking, LassosGraded, LinkedGraded}
use Rattle.theory.specs.Inclusion.{Included, Witness, IncludedGrades, HigherGraded}
use Rattle.theory.proofs.Values.{element_same, element_apart}
use Rattle.theory.proofs.IdempotentPowers.{one_turns}
use Rattle.theory.proofs.ShortWords.{reached_intro}
use Rattle.theory.proofs.Included.{included_elim, strong_test_elim, strong_test_intro}
use Rattle.theory.proofs.Gradings.{level_down, level_linked, one_grade, included_grade, higher_graded}
use Rattle.theory.proofs.TableTests.{linked_only_elim, conjugate_intro, least_intro, least_elim, counted_same}
use Rattle.theory.proofs.Computing.{computing, lasso_elim, graded_is}
use Rattle.theory.proofs.SmallRules.{entry, table, marks, meet_rows, W, Z, W₀, no_marks, first_mark, three_grades, lower_grade, two_grades, W_sound, W_graded_grades, W_lower_grades, Z_sound, W₀_lawful, stray_rule}
use Rattle.theory.proofs.Examples.{W_accepts, W_refuses, graded_zeros, graded_ones, lower_zeros, Z_ones, Z_zeros}

-- M8: a table that is not associative; one that is not closed; a letter that has no element
pub not_associative : ¬ Lawful (table ((1 ∷ 0 ∷ []) ∷ (0 ∷ 0 ∷ []) ∷ []) (0 ∷ []))
not_associative l =
    let e : ◌≡◌ {A = ℕ} 0 1 = l.associative 0 0 1 (omega arith) (omega arith) (omega arith) in
    omega arith

pub not_closed : ¬ Lawful (table ((1 ∷ []) ∷ []) (0 ∷ []))
not_closed l = omega (arith, l.closed 0 0 (omega arith) (omega arith))

pub no_image : ¬ Lawful (table meet_rows (2 ∷ []))
no_image l = omega (arith, l.images 0 (omega arith))

-- M9: in W's table with one letter of image 0 the element 1 is no word's value
pub no_word : ¬ WordOf W₀ 1
unfolding computing
no_word = reached_intro W₀_lawful

-- a rule need not have its elements reached or its marks linked
pub stray_unreached : ¬ AllReached stray_rule.morphism
stray_unreached r = no_word (r.word_of 1 (omega arith))

pub stray_unlinked : ¬ LinkedOnly stray_rule.morphism (level 1 stray_rule.marks)
unfolding computing
stray_unlinked l =
    let e : ◌≡◌ {A = ℕ} 0 1 = (l.linked 1 0 (omega arith) (omega arith) tt).stays in
    omega arith

-- a pair of grade 1 is not in the second level, one of grade 2 not in the third, and one of grade 0 not in the first
pub not_second_level : ¬ T (level 2 (entry three_grades) 0 1)
unfolding computing
not_second_level t = t

pub not_third_level : ¬ T (level 3 (entry three_grades) 1 1)
unfolding computing
not_third_level t = t

pub not_marked : ¬ T (marks first_mark 0 1)
unfolding computing
not_marked t = t

-- a start may be empty
pub empty_start : Lasso 2 [] (0 ∷ [])
unfolding computing
empty_start = lasso_elim 2 [] (0 ∷ []) tt

-- an empty start and another never have equal values
not_none : (m : Morphism) (s : ℕ) (x : Value) → ¬ (join m (element s) x ≡ none)
unfolding join
not_none m s none = element_apart
not_none m s (element t) = element_apart

pub empty_apart : (m : Morphism) (a : ℕ) (w : List ℕ) → ¬ (value m (a ∷ w) ≡ value m [])
unfolding value
empty_apart m a w = not_none m (m.image a) (value m w)

-- no lasso: an empty cycle, a foreign letter
pub empty_cycle : {k : ℕ} {u : List ℕ} → ¬ Lasso k u []
empty_cycle l = omega (arith, l.cycle_some)

pub foreign_letter : {v : List ℕ} → ¬ Lasso 2 (2 ∷ []) v
foreign_letter l = go l.start_over
  where
    go : ¬ Over 2 (2 ∷ [])
    go (over_cons h o) = omega arith

-- nothing is accepted with no cycle, and nothing under no marks
pub no_cycle : {m : Morphism} {P : Pairs} {u : List ℕ} → ¬ Accepts m P u []
no_cycle a = omega (arith, a.cycle_some)

pub no_marks_refuse : {m : Morphism} {g : ℕ} {u v : List ℕ} → 1 ≤ g → ¬ AtLeast m (entry no_marks) g u v
no_marks_refuse {g = g} some a = omega (arith, level_down (entry no_marks) g a.element_of_start a.cycle_element a.has_mark)

-- not linked: 1 is not idempotent in Z; in W 1·0 is not 1
pub not_idempotent : ¬ Linked Z 0 1
not_idempotent l =
    let e : ◌≡◌ {A = ℕ} 0 1 = l.idempotent.square in
    omega arith

pub not_stays : ¬ Linked W 1 0
not_stays l =
    let e : ◌≡◌ {A = ℕ} 0 1 = l.stays in
    omega arith

-- not conjugate in W: (0, 0) and (0, 1), where x·y = 0 and y·x = 1 fail together; (0, 1) and (1, 1), where 0·x is not 1
pub cycles_apart : ¬ Conjugate W 0 0 0 1
unfolding computing
cycles_apart = conjugate_intro

pub starts_apart : ¬ Conjugate W 0 1 1 1
unfolding computing
starts_apart = conjugate_intro

-- the least conjugate of the pair (1, 0) of Z is (0, 0), and not the pair itself
pub Z_least : LeastConjugate Z 1 0 0 0
unfolding computing
Z_least = least_elim Z_sound.lawful 1 0 0 0 tt

pub Z_not_least : ¬ LeastConjugate Z 1 0 1 0
unfolding computing
Z_not_least = least_intro Z_sound.lawful

-- the joins of Z are one, and not none
pub Z_joins : ¬ ClassCounts Z 2 1 0
Z_joins k = omega (arith, k.difference)

-- one number below 3 is 1
pub count_of_one : {c : ℕ} → Counted (λ i. i ≡ 1) 3 c → c ≡ 1
count_of_one k =
    counted_same k (counted_other (λ e. omega arith) (counted_one refl (counted_other (λ e. omega arith) counted_none)))

-- W's marking is not included in the empty one
pub not_included : ¬ Included W (marks first_mark) (marks no_marks)
unfolding computing
not_included i = no_marks_refuse {g = 1} (omega arith) (i.accepted_too (1 ∷ []) (0 ∷ []) (lasso_elim 2 (1 ∷ []) (0 ∷ []) tt) W_accepts)

-- a witness of W has at most 8 letters in its cycle, and one or two in its start
pub cycle_too_long : {P P' : Pairs} {u : List ℕ} → ¬ Witness W P P' u (0 ∷ 0 ∷ 0 ∷ 0 ∷ 0 ∷ 0 ∷ 0 ∷ 0 ∷ 0 ∷ [])
cycle_too_long w = omega (arith, w.cycle_short)

pub witness_no_start : {P P' : Pairs} {v : List ℕ} → ¬ Witness W P P' [] v
witness_no_start w = omega (arith, w.start_some)

pub start_too_long : {P P' : Pairs} {v : List ℕ} → ¬ Witness W P P' (0 ∷ 0 ∷ 0 ∷ []) v
start_too_long w = omega (arith, w.start_short)

-- what the second marking accepts, or the first does not, is no witness
pub accepted_second : {P : Pairs} → ¬ Witness W P (marks first_mark) (1 ∷ []) (0 ∷ [])
accepted_second w = w.refused_second W_accepts

pub refused_first : {P : Pairs} → ¬ Witness W (marks first_mark) P (0 ∷ []) (1 ∷ [])
refused_first w = W_refuses w.accepted_first

-- ---- grades: W with three grades gives 1 and then 0 for ever grade 3, and 0 and then 1 for ever grade 1

pub grade_too_low : ¬ Graded W (entry three_grades) (1 ∷ []) (0 ∷ []) 2
grade_too_low k = k.highest 3 (omega arith) (graded_zeros.attained (omega arith))

pub grade_too_high : ¬ Graded W (entry three_grades) (0 ∷ []) (1 ∷ []) 2
grade_too_high k = graded_ones.highest 2 (omega arith) (k.attained (omega arith))

pub grade_zero : ¬ Graded W (entry three_grades) (0 ∷ []) (1 ∷ []) 0
grade_zero k = k.highest 1 (omega arith) (graded_ones.attained (omega arith))

-- the lassos with two values do not have another grade; in a weak rule some have none, as two of them have different grades
pub lassos_other_grade : ¬ LassosGraded W (entry three_grades) (element 0) 1 2
unfolding computing
lassos_other_grade k = grade_too_high (k.graded (0 ∷ []) (1 ∷ []) (lasso_elim 2 (0 ∷ []) (1 ∷ []) tt) refl refl)

pub lassos_no_grade : {g : ℕ} → ¬ LassosGraded Z (entry first_mark) (element 1) 0 g
unfolding computing
lassos_no_grade {g} k =
    let low : g ≡ 0 = one_grade (k.graded (0 ∷ []) (1 ∷ []) (lasso_elim 2 (0 ∷ []) (1 ∷ []) tt) refl refl) Z_ones in
    let high : g ≡ 3 = one_grade (k.graded (0 ∷ []) (0 ∷ 0 ∷ []) (lasso_elim 2 (0 ∷ []) (0 ∷ 0 ∷ []) tt) refl refl) Z_zeros in
    omega arith

-- where no word has one of the values there is no such lasso, and so no grade of them
pub lassos_no_start : {marks : Marking} {e g : ℕ} → ¬ LassosGraded W₀ marks (element 1) e g
lassos_no_start k = no_word k.start

pub lassos_no_cycle : {marks : Marking} {x : Value} {g : ℕ} → ¬ LassosGraded W₀ marks x 1 g
lassos_no_cycle k = no_word k.cycle

-- a pair that is not linked has no grade
pub unlinked_no_grade : {marks : Marking} {g : ℕ} → ¬ LinkedGraded W marks 1 0 g
unlinked_no_grade k = not_stays k.linked

-- ---- strength: Z with (0, 0) one grade above (1, 0) is weak at that grade, and at no other

pub first_level_weak : ¬ StrongMarking Z (entry (two_grades 1 0))
unfolding computing
first_level_weak s =
    strong_test_intro Z_sound.lawful (linked_only_elim Z (level 1 (entry (two_grades 1 0))) tt) Z_sound.reached (s.at_each 1 (omega arith))

pub strong_at_one : Strong Z (level 1 (entry (two_grades 2 1)))
unfolding computing
strong_at_one = strong_test_elim Z_sound.lawful (linked_only_elim Z (level 1 (entry (two_grades 2 1))) tt) tt

pub second_level_weak : ¬ StrongMarking Z (entry (two_grades 2 1))
unfolding computing
second_level_weak s =
    strong_test_intro Z_sound.lawful (linked_only_elim Z (level 2 (entry (two_grades 2 1))) tt) Z_sound.reached (s.at_each 2 (omega arith))

pub strong_at_two : Strong Z (level 2 (entry (two_grades 3 2)))
unfolding computing
strong_at_two = strong_test_elim Z_sound.lawful (linked_only_elim Z (level 2 (entry (two_grades 3 2))) tt) tt

pub third_level_weak : ¬ StrongMarking Z (entry (two_grades 3 2))
unfolding computing
third_level_weak s =
    strong_test_intro Z_sound.lawful (linked_only_elim Z (level 3 (entry (two_grades 3 2))) tt) Z_sound.reached (s.at_each 3 (omega arith))

-- ---- inclusion by grades: W with three grades and with its first pair one grade lower

-- not included, though it is at the levels 1 and 2
pub included_at_two : Included W (level 2 (entry three_grades)) (level 2 (entry lower_grade))
unfolding computing
included_at_two =
    included_elim W_sound.lawful (level_linked W_sound.lawful W_graded_grades (omega arith)) (level_linked W_sound.lawful W_lower_grades (omega arith)) tt

pub not_included_grades : ¬ IncludedGrades W (entry three_grades) (entry lower_grade)
unfolding computing
not_included_grades i = omega (arith, included_grade i (lasso_elim 2 (1 ∷ []) (0 ∷ []) tt) graded_zeros lower_zeros)

-- nor is a lasso of equal grades graded higher, nor one of a lower grade, nor is one found with an empty start
pub equal_not_higher : ¬ HigherGraded W (entry three_grades) (entry lower_grade) (0 ∷ []) (1 ∷ [])
unfolding computing
equal_not_higher w =
    let k : Graded W (entry lower_grade) (0 ∷ []) (1 ∷ []) 1 = graded_is W_sound.lawful W_lower_grades (0 ∷ []) (1 ∷ []) tt refl in
    omega (arith, higher_graded w graded_ones k)

pub lower_not_higher : ¬ HigherGraded W (entry lower_grade) (entry three_grades) (1 ∷ []) (0 ∷ [])
lower_not_higher w = omega (arith, higher_graded w lower_zeros graded_zeros)

pub higher_no_start : {marks marks' : Marking} {v : List ℕ} → ¬ HigherGraded W marks marks' [] v
higher_no_start w = witness_no_start w.witness

-- ---- powers and turns

-- where no element is its own square, which is no associative table, 0 has no idempotent power
pub no_idempotent_power : ¬ HasIdempotentPower (table ((1 ∷ 0 ∷ []) ∷ (1 ∷ 0 ∷ []) ∷ []) (0 ∷ [])) 0
no_idempotent_power p = no_square _ p.idempotent
  where
    no_square : (e : ℕ) → Idempotent (table ((1 ∷ 0 ∷ []) ∷ (1 ∷ 0 ∷ []) ∷ []) (0 ∷ [])) e → ⊥
    no_square zero i = omega (arith, i.square)
    no_square (suc zero) i = omega (arith, i.square)
    no_square (suc (suc e)) i = omega (arith, i.inside)

-- in Z's table 1·1 is 0 and 0·0 is 0: the letter 0, of image 1, settles with two turns, and not with one; the letter 1, of image 0, with one,
-- and not with two
pub two_turns : TurnsOf Z (0 ∷ []) 2
unfolding value join power
two_turns = record {
  cycle = 1;
  cycle_value = refl;
  turns_are = record {
    index = 1;
    below = omega arith;
    is_exponent = refl;
    idempotent = record { inside = omega arith; square = refl };
    least = λ i h d. one_not i (omega arith) d.square;
  };
}
  where
    one_not : (i : ℕ) → i ≡ 0 → Z.product (power Z 1 i) (power Z 1 i) ≡ power Z 1 i → ⊥
    one_not i e s =
        let q : ◌≡◌ {A = ℕ} 0 1 = subst (λ (j : ℕ). Z.product (power Z 1 j) (power Z 1 j) ≡ power Z 1 j) e s in
        omega arith

pub not_one_turn : ¬ TurnsOf Z (0 ∷ []) 1
not_one_turn t = omega (arith, one_turns t two_turns)

pub not_two_turns : ¬ TurnsOf Z (1 ∷ []) 2
unfolding value join power
not_two_turns t =
    let e : t.cycle ≡ 0 = element_same (sym t.cycle_value) in
    let l : LeastExponent Z 0 2 = subst (λ (x : ℕ). LeastExponent Z x 2) e t.turns_are in
    l.least 0 (omega (arith, l.is_exponent)) (record { inside = omega arith; square = refl })

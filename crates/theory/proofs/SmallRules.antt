-- Small rules, given by lists. The tests find by computing that their tables are lawful, that every element is some word's
-- value, that the marks are linked and that their grades are at most 3. One rule more has an element that is no word's value and a mark
-- that is not linked, and is a rule all the same. "Document 01's small rules get grade 3 on each mark" (document 02, Job 12); other
-- markings of W and Z have several grades. Assumes nothing.
use Prim.Native.Nat.{ℕ}
use mathlib.Core.Bool.{Bool, ◌&&◌}
use mathlib.Core.List.{List, [], ◌∷◌}
use lib.ListN.{length, get_or}
use lib.Dec.{T, leb, leb→le}
use Rattle.finite.proofs.Tests.{T_and_left, T_and_right}
use Rattle.theory.specs.Rules.{Morphism, Lawful, Pairs, Marking, Rule, level, AllReached}
use Rattle.theory.specs.Pairs.{LinkedOnly}
use Rattle.theory.proofs.ShortWords.{unreached}
use Rattle.theory.proofs.Gradings.{GradedMarks}
use Rattle.theory.proofs.TableTests.{all_pairs, all_pairs_elim, lawful_test, lawful_elim, reached_all, linked_only_test, linked_only_elim}
use Rattle.theory.proofs.Computing.{computing}

-- the number in a row and a column, 0 outside
abbrev pub entry : List (List ℕ) → ℕ → ℕ → ℕ
entry rows a b = get_or (get_or rows a []) b 0

-- a table by its rows, and the elements of its letters
abbrev pub table : List (List ℕ) → List ℕ → Morphism
table rows images = record { size = length rows; letters = length images; product = entry rows; image = λ a. get_or images a 0 }

-- the pairs that a list of rows marks
abbrev pub marks : List (List ℕ) → Pairs
marks rows = level 1 (entry rows)

-- two elements: 0 for the words that have a letter of image 0, and 1 for the others
abbrev pub meet_rows : List (List ℕ)
meet_rows = (0 ∷ 0 ∷ []) ∷ (0 ∷ 1 ∷ []) ∷ []

-- two elements: the letters of image 1 counted, 0 for an even number and 1 for an odd one
abbrev pub parity_rows : List (List ℕ)
parity_rows = (0 ∷ 1 ∷ []) ∷ (1 ∷ 0 ∷ []) ∷ []

-- the table of rule W, "letter 0 without end"
abbrev pub W : Morphism
W = table meet_rows (0 ∷ 1 ∷ [])

-- the table of rule Z, and of Z with letter 0 only
abbrev pub Z : Morphism
Z = table parity_rows (1 ∷ 0 ∷ [])

abbrev pub Z₀ : Morphism
Z₀ = table parity_rows (1 ∷ [])

-- the table of W with one letter, of image 0: element 1 is no word's value
abbrev pub W₀ : Morphism
W₀ = table meet_rows (0 ∷ [])

-- no mark; and with grade 3 each the mark (0, 0); the marks (0, 0), (0, 1) and (1, 1), which are W's linked pairs; the mark (1, 0), not
-- linked there
abbrev pub no_marks : List (List ℕ)
no_marks = []

abbrev pub first_mark : List (List ℕ)
first_mark = (3 ∷ []) ∷ []

abbrev pub three_marks : List (List ℕ)
three_marks = (3 ∷ 3 ∷ []) ∷ (0 ∷ 3 ∷ []) ∷ []

abbrev pub stray_mark : List (List ℕ)
stray_mark = [] ∷ (3 ∷ []) ∷ []

-- W's linked pairs with three grades, (0, 0) with 3, (0, 1) with 1 and (1, 1) with 2; and with (0, 0) one grade lower
abbrev pub three_grades : List (List ℕ)
three_grades = (3 ∷ 1 ∷ []) ∷ (0 ∷ 2 ∷ []) ∷ []

abbrev pub lower_grade : List (List ℕ)
lower_grade = (2 ∷ 1 ∷ []) ∷ (0 ∷ 2 ∷ []) ∷ []

-- the grades of W's linked pairs turned into 3 less each; and W's three marks with (1, 0) too, which is not linked
abbrev pub turned_grades : List (List ℕ)
turned_grades = (0 ∷ 2 ∷ []) ∷ (0 ∷ 1 ∷ []) ∷ []

abbrev pub four_marks : List (List ℕ)
four_marks = (3 ∷ 3 ∷ []) ∷ (3 ∷ 3 ∷ []) ∷ []

-- Z's linked pairs, (0, 0) with a grade and (1, 0) with another
abbrev pub two_grades : ℕ → ℕ → List (List ℕ)
two_grades g h = (g ∷ []) ∷ (h ∷ []) ∷ []

-- what the tests ask of a table and its marks
pub record Sound (m : Morphism) (P : Pairs) : Type 0 where
  pub lawful : Lawful m
  pub reached : AllReached m
  pub linked : LinkedOnly m P

-- the tests in one
unfoldable pub sound_test : Morphism → Pairs → Bool
unfolding computing
sound_test m P = lawful_test m && (leb m.size (unreached m) && linked_only_test m P)

pub small_rule_sound : (m : Morphism) (P : Pairs) → T (sound_test m P) → Sound m P
unfolding sound_test
small_rule_sound m P t =
    let t₁ = T_and_right (lawful_test m) _ t in
    let law = lawful_elim m (T_and_left (lawful_test m) _ t) in
    record {
      lawful = law;
      reached = reached_all law (T_and_left (leb m.size (unreached m)) _ t₁);
      linked = linked_only_elim m P (T_and_right (leb m.size (unreached m)) _ t₁);
    }

-- every pair's grade is at most 3
unfoldable pub grades_test : Morphism → Marking → Bool
unfolding computing
grades_test m marks = all_pairs m.size (λ s e. leb (marks s e) 3)

pub sound_grades : (m : Morphism) (marking : Marking) → Sound m (level 1 marking) → T (grades_test m marking) → GradedMarks m marking
unfolding grades_test
sound_grades m marking k t = record {
  small = λ s e hs he. leb→le (marking s e) 3 (all_pairs_elim m.size (λ s e. leb (marking s e) 3) t s e hs he);
  linked = k.linked;
}

-- each passes
pub W_sound : Sound W (marks first_mark)
unfolding sound_test
W_sound = small_rule_sound W (marks first_mark) tt

pub W_all_sound : Sound W (marks three_marks)
unfolding sound_test
W_all_sound = small_rule_sound W (marks three_marks) tt

pub Z_sound : Sound Z (marks first_mark)
unfolding sound_test
Z_sound = small_rule_sound Z (marks first_mark) tt

pub Z₀_sound : Sound Z₀ (marks first_mark)
unfolding sound_test
Z₀_sound = small_rule_sound Z₀ (marks first_mark) tt

pub W_graded_sound : Sound W (marks three_grades)
unfolding sound_test
W_graded_sound = small_rule_sound W (marks three_grades) tt

pub W_lower_sound : Sound W (marks lower_grade)
unfolding sound_test
W_lower_sound = small_rule_sound W (marks lower_grade) tt

pub W_grades : GradedMarks W (entry first_mark)
unfolding grades_test
W_grades = sound_grades W (entry first_mark) W_sound tt

pub W_all_grades : GradedMarks W (entry three_marks)
unfolding grades_test
W_all_grades = sound_grades W (entry three_marks) W_all_sound tt

pub W_graded_grades : GradedMarks W (entry three_grades)
unfolding grades_test
W_graded_grades = sound_grades W (entry three_grades) W_graded_sound tt

pub W_lower_grades : GradedMarks W (entry lower_grade)
unfolding grades_test
W_lower_grades = sound_grades W (entry lower_grade) W_lower_sound tt

pub Z_grades : GradedMarks Z (entry first_mark)
unfolding grades_test
Z_grades = sound_grades Z (entry first_mark) Z_sound tt

pub Z₀_grades : GradedMarks Z₀ (entry first_mark)
unfolding grades_test
Z₀_grades = sound_grades Z₀ (entry first_mark) Z₀_sound tt

pub W₀_lawful : Lawful W₀
unfolding computing
W₀_lawful = lawful_elim W₀ tt

-- a table with its marks as a rule
abbrev pub rule : (m : Morphism) (rows : List (List ℕ)) → Lawful m → Rule
rule m rows law = record { morphism = m; lawful = law; marks = entry rows }

abbrev pub W_rule : Rule
W_rule = rule W first_mark W_sound.lawful

abbrev pub W_all : Rule
W_all = rule W three_marks W_sound.lawful

abbrev pub W_graded : Rule
W_graded = rule W three_grades W_sound.lawful

abbrev pub W_lower : Rule
W_lower = rule W lower_grade W_sound.lawful

abbrev pub Z_rule : Rule
Z_rule = rule Z first_mark Z_sound.lawful

abbrev pub Z₀_rule : Rule
Z₀_rule = rule Z₀ first_mark Z₀_sound.lawful

-- a rule with an element that is no word's value and a mark that is not linked
abbrev pub stray_rule : Rule
stray_rule = rule W₀ stray_mark W₀_lawful

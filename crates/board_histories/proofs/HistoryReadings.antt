-- What the definitions of a board's histories say in small cases: each is contradicted where a definition says something else. Assumes nothing.
use Prim.Native.Nat.{ℕ, ◌≤◌, ◌<◌}
use mathlib.Core.Path.{◌≡◌, refl}
use mathlib.Core.Bool.{Bool, true, false, cond}
use mathlib.Core.Logic.{inl, ⊎_elim}
use mathlib.Core.List.{List, [], ◌∷◌}
use native.Mathlib.Omega.{arith}
use lib.ListN.{length}
use Rattle.theory.specs.Words.{over_nil, over_cons}
use Rattle.theory.specs.Rules.{join, value}
use Rattle.theory.specs.Grades.{Graded}
use Rattle.theory.proofs.Gradings.{level_up, at_least_bounded}
use Rattle.formats.specs.Sections.{two_bytes}
use Rattle.formats.specs.Table.{product_at, image_at}
use Rattle.formats.specs.RuleFile.{letters_at, letters_of, marks_at, morphism_of, mark_start, mark_cycle, mark_grade, is_mark, grade_among, marks_in, marking_of}
use Rattle.promises.specs.Histories.{Action, event, mark, since_word, before_word}
use Rattle.promises.specs.Advance.{no_grade}
use Rattle.board_histories.specs.Histories.{Deed, entered, left, moved, nobody, stands, hears, standing, CountsAnew, SomeCountsAnew, GradeAnew}

-- ---- what stands under a name

module _ (file other : List ℕ) where
  -- it hears what comes after it entered, the latest first
  heard_since : standing (moved mark ∷ moved (event 0) ∷ entered 3 file ∷ moved mark ∷ []) 3 ≡ stands file (mark ∷ event 0 ∷ [])
  unfolding standing hears
  heard_since = refl

  -- nobody stands there who has left, or who entered elsewhere
  left_stands_not : standing (moved mark ∷ left 3 ∷ entered 3 file ∷ []) 3 ≡ nobody
  unfolding standing hears
  left_stands_not = refl

  other_stands : standing (left 2 ∷ entered 2 other ∷ entered 3 file ∷ []) 3 ≡ stands file []
  unfolding standing
  other_stands = refl

  -- who enters under a name that was left has heard nothing
  entered_again : standing (entered 3 other ∷ left 3 ∷ moved mark ∷ entered 3 file ∷ []) 3 ≡ stands other []
  unfolding standing
  entered_again = refl

-- ---- some deeds give one grade

pub one_grade_anew : {log : List Deed} {g h : ℕ} → GradeAnew log g → GradeAnew log h → g ≡ h
one_grade_anew {log} {g} {h} j k =
    ⊎_elim (λ (e : g ≡ no_grade). ⊎_elim (λ (f : h ≡ no_grade). omega arith) (λ (t : SomeCountsAnew log h). absurd (j.none e t.name h t.counts)) k.attained)
    (λ (s : SomeCountsAnew log g).
    ⊎_elim (λ (f : h ≡ no_grade). absurd (k.none f s.name g s.counts))
    (λ (t : SomeCountsAnew log h). omega (arith, j.lowest t.name h t.counts, k.lowest s.name g s.counts)) k.attained)
    j.attained

-- ---- a board where nobody stands has no grade, and no other number

not_standing : {file : List ℕ} {history : List Action} → nobody ≡ stands file history → ⊥
not_standing e = let z : ◌≡◌ {A = ℕ} 0 1 = cc in omega arith

nobody_counts : (i grade : ℕ) → CountsAnew [] i grade → ⊥
unfolding standing
nobody_counts i grade c = not_standing c.stands_there

nobody_none : GradeAnew [] no_grade
nobody_none = record { lowest = λ i h c. absurd (nobody_counts i h c); attained = inl refl; none = λ e i h c. nobody_counts i h c }

nobody_not_3 : GradeAnew [] 3 → ⊥
nobody_not_3 k = ⊎_elim (λ e. omega arith) (λ (s : SomeCountsAnew [] 3). nobody_counts s.name 3 s.counts) k.attained

-- one that has just entered does not count
just_entered : (file : List ℕ) (grade : ℕ) → CountsAnew (entered 0 file ∷ []) 0 grade → ⊥
unfolding standing since_word
just_entered file grade c = go c.history c.stands_there c.some_letter
  where
    go : (history : List Action) → stands file [] ≡ stands c.file history → 0 < length (since_word history) → ⊥
    go [] e h = omega arith
    go (action ∷ history) e h =
        let both : [] ≡ action ∷ history = cc in
        let z : ◌≡◌ {A = ℕ} 0 1 = cc in
        omega arith

-- ---- rules of one element and one letter, whose one pair has a grade

rule_of : ℕ → List ℕ
rule_of grade = 1 ∷ 0 ∷ 1 ∷ 0 ∷ 1 ∷ 0 ∷ 0 ∷ 0 ∷ grade ∷ []

-- no pair has another grade, but for none
at_most : (flag : Bool) (grade : ℕ) → cond flag grade 0 ≤ grade
at_most true grade = omega arith
at_most false grade = omega arith

-- the lasso with start 0 and cycle 0 0 has it
rule_graded : (grade : ℕ) → Graded (morphism_of (rule_of grade)) (marking_of (rule_of grade)) (0 ∷ []) (0 ∷ 0 ∷ []) grade
unfolding rule_of value join product_at image_at letters_at letters_of marks_at two_bytes marks_in grade_among is_mark mark_start mark_cycle mark_grade
rule_graded grade =
    let known : 0 < 1 = omega arith in
    record {
      attained = λ some. record {
        cycle_some = omega arith;
        start = 0 ∷ [];
        cycle = 0 ∷ 0 ∷ [];
        start_over = over_cons known over_nil;
        cycle_over = over_cons known (over_cons known over_nil);
        same = λ i. refl;
        element_of_start = 0;
        cycle_element = 0;
        start_value = refl;
        cycle_value = refl;
        has_mark = level_up (marking_of (rule_of grade)) grade 0 0 (omega arith);
      };
      highest = λ h above a. omega (arith, at_least_bounded (marking_of (rule_of grade)) grade (λ s e. at_most (is_mark (rule_of grade) (marks_at (rule_of grade)) s e 0) grade) h a);
    }

-- two of them entered, of the grades 2 and 1, and heard 0, a mark, 0 and 0
heard : List Deed
heard = moved (event 0) ∷ moved (event 0) ∷ moved mark ∷ moved (event 0) ∷ entered 1 (rule_of 1) ∷ entered 0 (rule_of 2) ∷ []

history_of_both : List Action
history_of_both = event 0 ∷ event 0 ∷ mark ∷ event 0 ∷ []

first_counts : CountsAnew heard 0 2
unfolding heard history_of_both standing hears since_word before_word
first_counts = record {
  named = omega arith;
  file = rule_of 2;
  history = history_of_both;
  stands_there = refl;
  some_letter = omega arith;
  graded = rule_graded 2;
}

second_counts : CountsAnew heard 1 1
unfolding heard history_of_both standing hears since_word before_word
second_counts = record {
  named = omega arith;
  file = rule_of 1;
  history = history_of_both;
  stands_there = refl;
  some_letter = omega arith;
  graded = rule_graded 1;
}

-- the higher grade is not theirs, nor is none
higher_excluded : GradeAnew heard 2 → ⊥
higher_excluded k = omega (arith, k.lowest 1 1 second_counts)

none_excluded : GradeAnew heard no_grade → ⊥
none_excluded k = k.none refl 0 2 first_counts

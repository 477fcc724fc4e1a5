-- What empty starts change: nothing. For every rule and rival, strong, same grades and smallest say the same whether lassos with an
-- empty start count or not, and so does inclusion (document 02, Job 4). Also the lassos of a cycle alone. Assumes nothing.
use Prim.Native.Nat.{ℕ}
use mathlib.Core.Path.{◌≡◌, refl, ap, ◌∙◌}
use mathlib.Core.Logic.{◌↔◌}
use mathlib.Core.List.{List, []}
use Rattle.theory.specs.Words.{over_nil}
use Rattle.theory.specs.Rules.{Morphism, Pairs, Marking, Rule, level, none, element, value, ValueWord}
use Rattle.theory.specs.Acceptance.{Strong}
use Rattle.theory.specs.Grades.{StrongMarking, LassosGraded}
use Rattle.theory.specs.Smallest.{SameGrades, Smallest}
use Rattle.theory.specs.Inclusion.{Included, IncludedGrades}
use Rattle.theory.specs.EmptyStarts.{StrongStarted, StrongMarkingStarted, SameStarted, SmallestStarted, IncludedStarted, IncludedGradesStarted, EmptyStartsTheorem}
use Rattle.theory.proofs.Starts.{started_lasso, start_or_turn, first_value, lasso_started, value_started, equal_started}
use Rattle.theory.proofs.Gradings.{graded_same}
use Rattle.theory.proofs.Strength.{started_accepts}

-- strong: lassos with equal values have equal values with a turn of the cycle for an empty start
pub strong_from_started : {m : Morphism} {P : Pairs} → StrongStarted m P → Strong m P
strong_from_started {m} {P} s = record {
  both_or_neither = λ u v u' v' l l' eu ev.
      (let both = s.both_or_neither (start_or_turn u v) v (start_or_turn u' v') v' (lasso_started l) (lasso_started l') (equal_started m u v u' v' eu ev) ev in
      let here = started_accepts {m = m} {P = P} u v l.cycle_some in
      let there = started_accepts {m = m} {P = P} u' v' l'.cycle_some in
      (λ a. there.0 (both.0 (here.1 a)), λ a. here.0 (both.1 (there.1 a))));
}

pub strong_to_started : {m : Morphism} {P : Pairs} → Strong m P → StrongStarted m P
strong_to_started s = record {
  both_or_neither = λ u v u' v' l l' eu ev. s.both_or_neither u v u' v' (started_lasso l) (started_lasso l') eu ev;
}

marking_from_started : {m : Morphism} {marks : Marking} → StrongMarkingStarted m marks → StrongMarking m marks
marking_from_started s = record { at_each = λ g some. strong_from_started (s.at_each g some) }

marking_to_started : {m : Morphism} {marks : Marking} → StrongMarking m marks → StrongMarkingStarted m marks
marking_to_started s = record { at_each = λ g some. strong_to_started (s.at_each g some) }

pub strong_same : {m : Morphism} {marks : Marking} → StrongMarking m marks ↔ StrongMarkingStarted m marks
strong_same = (marking_to_started, marking_from_started)

-- same grades
pub same_from_started : (r r' : Rule) → SameStarted r r' → SameGrades r r'
same_from_started r r' s = record {
  same_letters = s.same_letters;
  both_or_neither = λ g some u v l.
      (let both = s.both_or_neither g some (start_or_turn u v) v (lasso_started l) in
      let ours = started_accepts {m = r.morphism} {P = level g r.marks} u v l.cycle_some in
      let theirs = started_accepts {m = r'.morphism} {P = level g r'.marks} u v l.cycle_some in
      (λ a. theirs.0 (both.0 (ours.1 a)), λ a. ours.0 (both.1 (theirs.1 a))));
}

pub same_to_started : (r r' : Rule) → SameGrades r r' → SameStarted r r'
same_to_started r r' s = record {
  same_letters = s.same_letters;
  both_or_neither = λ g some u v l. s.both_or_neither g some u v (started_lasso l);
}

pub same_grades_same : (r r' : Rule) → SameGrades r r' ↔ SameStarted r r'
same_grades_same r r' = (same_to_started r r', same_from_started r r')

-- smallest: the rivals are the same
pub smallest_same : (r : Rule) → Smallest r ↔ SmallestStarted r
smallest_same r = (
  λ s. record {
    strong = marking_to_started s.strong;
    at_least = λ rival strong same. s.at_least rival (marking_from_started strong) (same_from_started r rival same);
    copy = λ rival strong same sizes. s.copy rival (marking_from_started strong) (same_from_started r rival same) sizes;
  },
  λ s. record {
    strong = marking_from_started s.strong;
    at_least = λ rival strong same. s.at_least rival (marking_to_started strong) (same_to_started r rival same);
    copy = λ rival strong same sizes. s.copy rival (marking_to_started strong) (same_to_started r rival same) sizes;
  },
)

-- inclusion: its verdict is what it was
included_to_started : {m : Morphism} {P P' : Pairs} → Included m P P' → IncludedStarted m P P'
included_to_started i = record { accepted_too = λ u v l a. i.accepted_too u v (started_lasso l) a }

included_from_started : {m : Morphism} {P P' : Pairs} → IncludedStarted m P P' → Included m P P'
included_from_started i = record {
  accepted_too = λ u v l a.
      (started_accepts u v l.cycle_some).0
      (i.accepted_too (start_or_turn u v) v (lasso_started l) ((started_accepts u v l.cycle_some).1 a));
}

pub included_same : {m : Morphism} {marks marks' : Marking} → IncludedGrades m marks marks' ↔ IncludedGradesStarted m marks marks'
included_same = (
  λ i. record { at_each = λ g some. included_to_started (i.at_each g some) },
  λ i. record { at_each = λ g some. included_from_started (i.at_each g some) },
)

-- ---- the lassos of a cycle alone

-- the empty word
no_word : (m : Morphism) → ValueWord m none
unfolding value
no_word m = record { word = []; over = over_nil; its_value = refl }

-- with a turn of the cycle for the empty start the start has the cycle's value
turn_value_lem : (m : Morphism) (u v : List ℕ) {e : ℕ} → value m u ≡ none → value m v ≡ element e → value m (start_or_turn u v) ≡ element e
unfolding first_value
turn_value_lem m u v eu ev = value_started m u v ∙ ap (λ x. first_value x (value m v)) eu ∙ ev

-- they have the grade of those with the cycle's value in the start too
pub cycle_graded : {m : Morphism} {marks : Marking} {e g : ℕ} → LassosGraded m marks (element e) e g → LassosGraded m marks none e g
cycle_graded {m} {marks} k = record {
  start = no_word m;
  cycle = k.cycle;
  graded = λ u v l eu ev.
      graded_same (λ i some. started_accepts {m = m} {P = level i marks} u v l.cycle_some)
      (k.graded (start_or_turn u v) v (started_lasso (lasso_started l)) (turn_value_lem m u v eu ev) ev);
}

pub empty_starts_theorem : EmptyStartsTheorem
empty_starts_theorem = record {
  strong = λ m marks. strong_same;
  same = same_grades_same;
  smallest = smallest_same;
  included = λ m marks marks'. included_same;
}

-- Grades by levels: the pairs of each grade or more fall as the grade rises; a lasso has at most one grade, and under marks of at most
-- 3 on linked pairs exactly one; what strong, same grades and inclusion, which are said by least grades, say of grades. Assumes nothing.
use Prim.Native.Nat.{ℕ, zero, suc, ◌≤◌, ◌<◌}
use native.Mathlib.Omega.{arith}
use mathlib.Core.Path.{◌≡◌, sym, ◌∙◌}
use mathlib.Core.Logic.{◌↔◌, ⊎_elim, by_cases}
use mathlib.Core.List.{List}
use lib.Dec.{T, leb→le, le→leb}
use Rattle.finite.proofs.Numbers.{le_or_lt}
use Rattle.finite.proofs.Highest.{same_above}
use Rattle.finite.proofs.Tests.{T_dec}
use Rattle.theory.specs.Words.{Lasso}
use Rattle.theory.specs.Rules.{Morphism, Lawful, Marking, Pairs, Rule, Value, level, element, value}
use Rattle.theory.specs.Acceptance.{Accepts}
use Rattle.theory.specs.Pairs.{LinkedOnly}
use Rattle.theory.specs.Grades.{AtLeast, Graded, StrongMarking, LassosGraded}
use Rattle.theory.specs.Smallest.{SameGrades, MarksGrades}
use Rattle.theory.specs.Inclusion.{IncludedGrades, HigherGraded}
use Rattle.theory.proofs.Values.{inside_of, value_some}
use Rattle.theory.proofs.Membership.{accepts_dec}
use Rattle.theory.proofs.Closure.{linked_test, linked_intro, linked_elim}

-- marks of at most 3, on linked pairs only
pub record GradedMarks (m : Morphism) (marks : Marking) : Type 0 where
  pub small : (s e : ℕ) → s < m.size → e < m.size → marks s e ≤ 3
  pub linked : LinkedOnly m (level 1 marks)

module _ (marks : Marking) where
  pub level_up : (g s e : ℕ) → g ≤ marks s e → T (level g marks s e)
  unfolding level
  level_up g s e h = le→leb g (marks s e) h

  pub level_down : (g s e : ℕ) → T (level g marks s e) → g ≤ marks s e
  unfolding level
  level_down g s e t = leb→le g (marks s e) t

  -- a pair of a grade has every lower one
  pub level_falls : (g h s e : ℕ) → g ≤ h → T (level h marks s e) → T (level g marks s e)
  level_falls g h s e l t = level_up g s e (omega (arith, level_down h s e t))

-- a lasso that a set of pairs accepts is accepted by a larger one, of which only the pair that shows it need be asked
pub accepts_larger : {m : Morphism} {P Q : Pairs} {u v : List ℕ} (a : Accepts m P u v) → T (Q a.element_of_start a.cycle_element) → Accepts m Q u v
accepts_larger a t = record {
  cycle_some = a.cycle_some;
  start = a.start;
  cycle = a.cycle;
  start_over = a.start_over;
  cycle_over = a.cycle_over;
  same = a.same;
  element_of_start = a.element_of_start;
  cycle_element = a.cycle_element;
  start_value = a.start_value;
  cycle_value = a.cycle_value;
  has_mark = t;
}

-- a lasso of a grade has every lower one
pub at_least_falls : {m : Morphism} {u v : List ℕ} (marks : Marking) (g h : ℕ) → g ≤ h → AtLeast m marks h u v → AtLeast m marks g u v
at_least_falls marks g h l a = accepts_larger a (level_falls marks g h a.element_of_start a.cycle_element l a.has_mark)

-- a lasso whose least grades are those up to a number has that grade
pub graded_by : {m : Morphism} {marks : Marking} {u v : List ℕ} {n : ℕ} → ((g : ℕ) → 1 ≤ g → AtLeast m marks g u v ↔ (g ≤ n)) → Graded m marks u v n
graded_by {n = n} f = record {
  attained = λ some. (f n some).1 (omega arith);
  highest = λ h l a. let z : h ≤ n = (f h (omega arith)).0 a in omega arith;
}

-- and conversely
pub graded_levels : {m : Morphism} {marks : Marking} {u v : List ℕ} {n : ℕ} → Graded m marks u v n → (g : ℕ) → 1 ≤ g → AtLeast m marks g u v ↔ (g ≤ n)
graded_levels {marks = marks} {n = n} k g some = (
  λ a. ⊎_elim (λ (h : g ≤ n). h) (λ h. absurd (k.highest g h a)) (le_or_lt g n),
  λ h. at_least_falls marks g n h (k.attained (omega arith)),
)

-- a lasso has at most one grade
pub one_grade : {m : Morphism} {marks : Marking} {u v : List ℕ} {g h : ℕ} → Graded m marks u v g → Graded m marks u v h → g ≡ h
one_grade j k = same_above (λ i some. (λ l. (graded_levels k i some).0 ((graded_levels j i some).1 l), λ l. (graded_levels j i some).0 ((graded_levels k i some).1 l)))

-- where the least grades of a lasso are bounded, it cannot be that it has no grade; whether it has a least grade need not be decided
pub grade_not_missing : {m : Morphism} {marks : Marking} {u v : List ℕ} (n : ℕ) → ((h : ℕ) → AtLeast m marks h u v → h ≤ n) → ¬ (¬ ((g : ℕ) × Graded m marks u v g))
grade_not_missing zero above f = f (0, record { attained = λ some. absurd (omega arith); highest = λ h k a. omega (arith, above h a) })
grade_not_missing {marks = marks} (suc n) above f =
    grade_not_missing n (λ h a. ⊎_elim (λ (k : h ≤ n). k)
    (λ k. absurd (f (suc n, record { attained = λ some. at_least_falls marks (suc n) h (omega arith) a; highest = λ i j b. omega (arith, above i b) }))) (le_or_lt h n)) f

-- they are where the marks are
pub at_least_bounded : {m : Morphism} {u v : List ℕ} (marks : Marking) (n : ℕ) → ((s e : ℕ) → marks s e ≤ n) → (h : ℕ) → AtLeast m marks h u v → h ≤ n
at_least_bounded marks n bound h a =
    omega (arith, level_down marks h a.element_of_start a.cycle_element a.has_mark, bound a.element_of_start a.cycle_element)

-- where each linked pair is marked with the grade of its lassos and no other pair of elements is marked, only linked pairs are
pub marks_grades_linked : {m : Morphism} {marks : Marking} {g : ℕ} → MarksGrades m marks → 1 ≤ g → LinkedOnly m (level g marks)
marks_grades_linked {m} {marks} {g} k some = record {
  linked = λ s e hs he t. ⊎_elim (λ l. linked_elim m s e l)
      (λ f. absurd (omega (arith, level_down marks g s e t, k.of_others s e hs he (λ l. f (linked_intro l))))) (T_dec (linked_test m s e));
}

-- lassos of the same least grades have the same grade
pub graded_same : {m m' : Morphism} {marks marks' : Marking} {u v u' v' : List ℕ} {n : ℕ}
    → ((g : ℕ) → 1 ≤ g → AtLeast m marks g u v ↔ AtLeast m' marks' g u' v') → Graded m marks u v n → Graded m' marks' u' v' n
graded_same f k = graded_by (λ g some.
    (λ a. (graded_levels k g some).0 ((f g some).1 a), λ h. (f g some).0 ((graded_levels k g some).1 h)))

-- strong: lassos with equal values have equal grades
pub strong_grade : {m : Morphism} {marks : Marking} {u v u' v' : List ℕ} {g : ℕ} → StrongMarking m marks → Lasso m.letters u v → Lasso m.letters u' v'
    → value m u ≡ value m u' → value m v ≡ value m v' → Graded m marks u v g → Graded m marks u' v' g
strong_grade {u = u} {v} {u'} {v'} s l l' eu ev = graded_same (λ h some. (s.at_each h some).both_or_neither u v u' v' l l' eu ev)

-- so the grade of one lasso is that of all with its values
pub strong_lassos : {m : Morphism} {marks : Marking} {x : Value} {e g : ℕ} (u v : List ℕ) → StrongMarking m marks → Lasso m.letters u v → value m u ≡ x
    → value m v ≡ element e → Graded m marks u v g → LassosGraded m marks x e g
strong_lassos u v s l eu ev k = record {
  start = record { word = u; over = l.start_over; its_value = eu };
  cycle = record { word = v; over = l.cycle_over; its_value = ev };
  graded = λ u' v' l' eu' ev'. strong_grade s l l' (eu ∙ sym eu') (ev ∙ sym ev') k;
}

-- same grades: a lasso has the same grade under both rules
pub same_grade : (r r' : Rule) {u v : List ℕ} {g : ℕ} → SameGrades r r' → Lasso r.morphism.letters u v → Graded r.morphism r.marks u v g
    → Graded r'.morphism r'.marks u v g
same_grade r r' {u} {v} s l = graded_same (λ h some. s.both_or_neither h some u v l)

-- inclusion: the grade under the first marking is at most that under the second
pub included_grade : {m : Morphism} {marks marks' : Marking} {u v : List ℕ} {g g' : ℕ} → IncludedGrades m marks marks' → Lasso m.letters u v
    → Graded m marks u v g → Graded m marks' u v g' → g ≤ g'
included_grade {u = u} {v} {g} {g'} i l k k' =
    ⊎_elim (λ (h : g ≤ g'). h)
    (λ h. absurd (k'.highest g h ((i.at_each g (omega arith)).accepted_too u v l (k.attained (omega arith))))) (le_or_lt g g')

-- a lasso that inclusion finds has a higher grade under the first marking than under the second
pub higher_graded : {m : Morphism} {marks marks' : Marking} {u v : List ℕ} {g g' : ℕ} → HigherGraded m marks marks' u v → Graded m marks u v g → Graded m marks' u v g' → g' < g
higher_graded {g' = g'} w k k' =
    let first = (graded_levels k w.least w.some).0 w.witness.accepted_first in
    ⊎_elim (λ (h : w.least ≤ g'). absurd (w.witness.refused_second ((graded_levels k' w.least w.some).1 h)))
    (λ h. omega (arith, first)) (le_or_lt w.least g')

-- a lasso with two values
its_lasso : {m : Morphism} {marks : Marking} {x : Value} {e g : ℕ} (k : LassosGraded m marks x e g) → Lasso m.letters k.start.word k.cycle.word
its_lasso {m} {e = e} k = record { start_over = k.start.over; cycle_over = k.cycle.over; cycle_some = value_some m k.cycle.word e k.cycle.its_value }

-- lassos with two values have at most one grade, as there is one
pub one_lassos_grade : {m : Morphism} {marks : Marking} {x : Value} {e g h : ℕ} → LassosGraded m marks x e g → LassosGraded m marks x e h → g ≡ h
one_lassos_grade j k =
    let u = j.start in
    let v = j.cycle in
    one_grade (j.graded u.word v.word (its_lasso j) u.its_value v.its_value) (k.graded u.word v.word (its_lasso j) u.its_value v.its_value)

module _ {m : Morphism} {marks : Marking} (law : Lawful m) (good : GradedMarks m marks) where
  pub level_linked : {g : ℕ} → 1 ≤ g → LinkedOnly m (level g marks)
  level_linked {g} some = record { linked = λ s e hs he t. good.linked.linked s e hs he (level_falls marks 1 g s e some t) }

  -- no lasso is of a grade above 3
  pub at_least_small : {g : ℕ} {u v : List ℕ} → AtLeast m marks g u v → g ≤ 3
  at_least_small {g} a =
      omega (
        arith,
        level_down marks g a.element_of_start a.cycle_element a.has_mark,
        good.small a.element_of_start a.cycle_element (inside_of law a.start_over a.start_value) (inside_of law a.cycle_over a.cycle_value),
      )

  pub graded_small : {g : ℕ} {u v : List ℕ} → Graded m marks u v g → g ≤ 3
  graded_small {g} k = ⊎_elim (λ (h : g ≤ 3). h) (λ h. at_least_small (k.attained (omega arith))) (le_or_lt g 3)

  pub lassos_small : {x : Value} {e g : ℕ} → LassosGraded m marks x e g → g ≤ 3
  lassos_small {e = e} k = graded_small (k.graded k.start.word k.cycle.word (its_lasso k) k.start.its_value k.cycle.its_value)

  -- every lasso has a grade
  pub has_grade : {u v : List ℕ} → Lasso m.letters u v → (g : ℕ) × Graded m marks u v g
  has_grade {u} {v} l = down 3 (λ h a. at_least_small a)
    where
      down : (n : ℕ) → ((h : ℕ) → AtLeast m marks h u v → h ≤ n) → (g : ℕ) × Graded m marks u v g
      down zero above = (0, record { attained = λ some. absurd (omega arith); highest = λ h k a. omega (arith, above h a) })
      down (suc n) above =
          by_cases (accepts_dec law (level_linked (let z : 1 ≤ suc n = omega arith in z)) l.start_over l.cycle_over l.cycle_some)
          (λ a. (suc n, record { attained = λ some. a; highest = λ h k b. omega (arith, above h b) }))
          (λ f. down n (λ h b. ⊎_elim (λ (k : h ≤ n). k) (λ k. absurd (f (at_least_falls marks (suc n) h (omega arith) b))) (le_or_lt h n)))

-- The marks of the closure of a strong marking, turned, are the marks of its complement. Assumes nothing.
use Prim.Native.Nat.{ℕ, ◌-◌, ◌≤◌, ◌<◌}
use native.Mathlib.Omega.{arith}
use mathlib.Core.Path.{◌≡◌, refl, sym, ap, ◌∙◌, subst}
use mathlib.Core.Bool.{Bool, true, false, cond}
use mathlib.Core.Logic.{⊎_elim}
use mathlib.Core.List.{List}
use lib.Dec.{T}
use Rattle.finite.proofs.Tests.{T_dec}
use Rattle.theory.specs.Rules.{Morphism, Lawful, Marking, level, AllReached}
use Rattle.theory.specs.Pairs.{Linked}
use Rattle.theory.specs.Grades.{StrongMarking}
use Rattle.theory.specs.Smallest.{Turned}
use Rattle.theory.proofs.Closure.{linked_test, linked_intro, linked_elim}
use Rattle.theory.proofs.Gradings.{GradedMarks}
use Rattle.theory.proofs.ClosureGrades.{closure_grade}
use Rattle.minimality.proofs.GradeOutcomes.{grading_linked}
use Rattle.minimality.proofs.Saturation.{saturated_at, saturated_other}
use Rattle.minimality.proofs.Complements.{lack, complement_marks, complement_saturates, complement_rest, complement_right}
use Rattle.scratch.specs.Map.{second_base, marks_from, MarkingAt}
use Rattle.scratch.proofs.Markings.{level_same}
use Rattle.mark_closure.proofs.Agreement.{linked_agrees, accepts_agrees, marking_strong_agrees}
use Rattle.mark_complement_marks.specs.Complement.{turned_mark, ComplementLaid}
use Rattle.promises.specs.Complement.{ComplementMarks}

-- the mark of a linked pair, and of every other
module _ (m : Morphism) (marks : Marking) (s e : ℕ) where
  turned_linked : Linked m s e → turned_mark m marks s e ≡ 3 - marks s e
  unfolding turned_mark
  turned_linked l = go (linked_test m s e) (linked_intro l)
    where
      go : (b : Bool) → T b → cond b (3 - marks s e) 0 ≡ 3 - marks s e
      go true t = refl
      go false t = absurd t

  turned_other : (Linked m s e → ⊥) → turned_mark m marks s e ≡ 0
  unfolding turned_mark
  turned_other f = go (linked_test m s e) (λ t. f (linked_elim m s e t))
    where
      go : (b : Bool) → (T b → ⊥) → cond b (3 - marks s e) 0 ≡ 0
      go true g = absurd (g tt)
      go false g = refl

  turned_equal : (marks' : Marking) → marks s e ≡ marks' s e → turned_mark m marks s e ≡ turned_mark m marks' s e
  unfolding turned_mark
  turned_equal marks' q = ap (λ (mark : ℕ). cond (linked_test m s e) (3 - mark) 0) q

  pub turned_small : turned_mark m marks s e ≤ 3
  unfolding turned_mark
  turned_small = go (linked_test m s e)
    where
      go : (b : Bool) → cond b (3 - marks s e) 0 ≤ 3
      go true = omega arith
      go false = omega arith

-- a pair's turned grade in the closure is what its lassos' grade lacks
turned_closure : (m : Morphism) (marks : Marking) (s e : ℕ) → Lawful m → turned_mark m (closure_grade m marks) s e ≡ complement_marks m marks s e
unfolding complement_marks lack
turned_closure m marks s e law =
    ⊎_elim (λ t.
    let l = linked_elim m s e t in
    turned_linked m (closure_grade m marks) s e l ∙ ap (λ (g : ℕ). 3 - g) (sym (grading_linked marks law l)) ∙ sym (saturated_at (lack m marks) s e l))
    (λ f.
    turned_other m (closure_grade m marks) s e (λ l. f (linked_intro l)) ∙ sym (saturated_other (lack m marks) s e (λ l. f (linked_intro l))))
    (T_dec (linked_test m s e))

-- a marking that has just these marks is the complement's
module _ {m : Morphism} {marks : Marking} (law : Lawful m) (reached : AllReached m) (good : GradedMarks m marks) (strong : StrongMarking m marks) (marks' : Marking)
    (is : (s e : ℕ) → s < m.size → e < m.size → complement_marks m marks s e ≡ marks' s e) where
  pub turned_complement : ComplementMarks m marks marks'
  turned_complement = record {
    complement = record {
      of_linked = λ s e l. subst (Turned m marks s e) (is s e l.inside l.idempotent.inside) ((complement_right law reached good strong).of_linked s e l);
      of_others = λ s e hs he f. sym (is s e hs he) ∙ (complement_right law reached good strong).of_others s e hs he f;
    };
    strong = marking_strong_agrees law (complement_marks m marks) marks' is (complement_saturates law reached good strong).strong;
    linked = linked_agrees m (level 1 (complement_marks m marks)) (level 1 marks') (same_level 1) (complement_saturates law reached good strong).linked_only;
    rest = λ g some small u v l.
        (let k = complement_rest law reached good strong g some small l in
        let q = accepts_agrees law (level (4 - g) (complement_marks m marks)) (level (4 - g) marks') (same_level (4 - g)) u v in
        (λ a. k.0 (q.1 a), λ f. q.0 (k.1 f)));
  }
    where
      same_level : (g s e : ℕ) → s < m.size → e < m.size → level g (complement_marks m marks) s e ≡ level g marks' s e
      same_level g s e hs he = level_same g (complement_marks m marks) marks' (is s e hs he)

-- the marks that the code leaves, where the second table was the closure
pub laid_complement : {m : Morphism} {marks : Marking} {entry exit : List ℕ} → Lawful m → AllReached m → GradedMarks m marks → StrongMarking m marks
    → MarkingAt m.size (closure_grade m marks) entry second_base → ComplementLaid m entry exit → ComplementMarks m marks (marks_from exit second_base)
laid_complement {m} {marks} {entry} {exit} law reached good strong closed l = turned_complement law reached good strong (marks_from exit second_base) is
  where
    is : (s e : ℕ) → s < m.size → e < m.size → complement_marks m marks s e ≡ marks_from exit second_base s e
    is s e hs he =
        sym (turned_closure m marks s e law)
        ∙ turned_equal m (closure_grade m marks) s e (marks_from entry second_base) (closed.same s e hs he)
        ∙ sym (l.marks s e hs he)

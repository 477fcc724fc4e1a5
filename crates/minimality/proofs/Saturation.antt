-- Saturation: where an outcome that the values decide depends on the endless word only, the marking of the linked pairs by
-- their outcomes is strong, gives every lasso its outcome for a grade, and marks each linked pair with the grade of its lassos. Assumes
-- nothing.
use Prim.Native.Nat.{ℕ, ◌≤◌, ◌<◌}
use native.Mathlib.Omega.{arith}
use mathlib.Core.Path.{◌≡◌, refl, sym, subst, ap₂, ◌∙◌}
use mathlib.Core.Bool.{Bool, true, false, cond}
use mathlib.Core.Logic.{◌↔◌, ⊎_elim}
use mathlib.Core.List.{List}
use lib.Dec.{T}
use Rattle.finite.proofs.Tests.{T_dec, T_true, T_false}
use Rattle.theory.specs.Words.{Lasso, endless}
use Rattle.theory.specs.Rules.{Morphism, Lawful, Marking, level, element, value, AllReached}
use Rattle.theory.specs.Acceptance.{Accepts, Strong}
use Rattle.theory.specs.Pairs.{Linked, LinkedOnly}
use Rattle.theory.specs.Grades.{AtLeast, Graded, StrongMarking}
use Rattle.theory.specs.Smallest.{MarksGrades}
use Rattle.theory.proofs.Values.{inside_of}
use Rattle.theory.proofs.Gradings.{level_up, level_down, graded_by}
use Rattle.theory.proofs.Starts.{start_or_turn, first_value, same_started}
use Rattle.theory.proofs.Strength.{settled_cycle, settled_start, Settled, settled_linked, settle_strength}
use Rattle.theory.proofs.Closure.{linked_test, linked_intro, linked_elim}
use Rattle.minimality.proofs.Contexts.{HasValue}
use Rattle.minimality.proofs.Smallest.{value_outcome, outcome, outcome_at_lem, elements_lasso, LassoValues, lasso_values}

-- lassos that write one endless word have one outcome
pub record DependsOnWord (m : Morphism) (acc : ℕ → ℕ → ℕ) : Type 0 where
  pub same_outcome : (u v u' v' : List ℕ) → Lasso m.letters u v → Lasso m.letters u' v'
      → ((i : ℕ) → endless u v i ≡ endless u' v' i) → outcome m acc u v ≡ outcome m acc u' v'

-- each linked pair is marked with its outcome, and no other pair of elements
pub record MarksOutcomes (m : Morphism) (acc : ℕ → ℕ → ℕ) (marks : Marking) : Type 0 where
  pub of_linked : (s e : ℕ) → Linked m s e → marks s e ≡ acc s e
  pub of_others : (s e : ℕ) → s < m.size → e < m.size → (Linked m s e → ⊥) → marks s e ≡ 0

-- no mark is above a bound of the outcomes of linked pairs
pub marks_at_most : {m : Morphism} {acc : ℕ → ℕ → ℕ} {marks : Marking} (bound : ℕ) → MarksOutcomes m acc marks → ((s e : ℕ) → Linked m s e → acc s e ≤ bound)
    → (s e : ℕ) → s < m.size → e < m.size → marks s e ≤ bound
marks_at_most {m} {marks = marks} bound k most s e hs he =
    ⊎_elim (λ t. let l = linked_elim m s e t in omega (arith, k.of_linked s e l, most s e l)) (λ f. omega (arith, k.of_others s e hs he (λ l. f (linked_intro l))))
    (T_dec (linked_test m s e))

module _ {m : Morphism} {acc : ℕ → ℕ → ℕ} {marks : Marking} (by_outcomes : MarksOutcomes m acc marks) {g : ℕ} (some : 1 ≤ g) where
  marked_intro : {s e : ℕ} → Linked m s e → g ≤ acc s e → T (level g marks s e)
  marked_intro {s} {e} l h = level_up marks g s e (omega (arith, by_outcomes.of_linked s e l))

  marked_elim : (s e : ℕ) → s < m.size → e < m.size → T (level g marks s e) → Linked m s e × (g ≤ acc s e)
  marked_elim s e hs he t =
      let h : g ≤ marks s e = level_down marks g s e t in
      ⊎_elim (λ k. let l = linked_elim m s e k in (l, omega (arith, by_outcomes.of_linked s e l)))
      (λ f. absurd (omega (arith, by_outcomes.of_others s e hs he (λ l. f (linked_intro l))))) (T_dec (linked_test m s e))

  -- only linked pairs are marked
  pub marked_linked : LinkedOnly m (level g marks)
  marked_linked = record { linked = λ s e hs he h. (marked_elim s e hs he h).0 }

  module _ (law : Lawful m) (depends : DependsOnWord m acc) where
    accepted_outcome : {u v : List ℕ} → Lasso m.letters u v → Accepts m (level g marks) u v → g ≤ outcome m acc u v
    accepted_outcome {u} {v} l a =
        let p : HasValue m a.start (element a.element_of_start) = record { over = a.start_over; is = a.start_value } in
        let w : HasValue m a.cycle (element a.cycle_element) = record { over = a.cycle_over; is = a.cycle_value } in
        let e : outcome m acc u v ≡ acc a.element_of_start a.cycle_element =
        sym (depends.same_outcome _ _ _ _ (elements_lasso p w) l a.same) ∙ outcome_at_lem acc p w in
        rw e (marked_elim a.element_of_start a.cycle_element (inside_of law a.start_over a.start_value) (inside_of law a.cycle_over a.cycle_value) a.has_mark).1

    outcome_accepted : {u v : List ℕ} → Lasso m.letters u v → g ≤ outcome m acc u v → Accepts m (level g marks) u v
    outcome_accepted {u} {v} l h =
        let k : LassoValues m u v = lasso_values law l in
        let t : Settled m (start_or_turn u v) v k.start k.cycle = settle_strength law k.start_has.over l.cycle_over k.start_has.is k.cycle_has.is in
        let same : (i : ℕ) → endless t.start t.cycle i ≡ endless u v i = λ i. t.same i ∙ same_started u v l.cycle_some i in
        let p : HasValue m t.start (element (settled_start m k.start k.cycle)) = record { over = t.start_over; is = t.start_value } in
        let w : HasValue m t.cycle (element (settled_cycle m k.cycle)) = record { over = t.cycle_over; is = t.cycle_value } in
        let e : outcome m acc u v ≡ acc (settled_start m k.start k.cycle) (settled_cycle m k.cycle) =
        sym (depends.same_outcome _ _ _ _ (elements_lasso p w) l same) ∙ outcome_at_lem acc p w in
        record {
          cycle_some = l.cycle_some;
          start = t.start;
          cycle = t.cycle;
          start_over = t.start_over;
          cycle_over = t.cycle_over;
          same = same;
          element_of_start = settled_start m k.start k.cycle;
          cycle_element = settled_cycle m k.cycle;
          start_value = t.start_value;
          cycle_value = t.cycle_value;
          has_mark = marked_intro (settled_linked law k.start_inside k.cycle_inside) (rw e at h);
        }

    -- a lasso is accepted at level g exactly if its outcome is g or more
    pub marked_accepts : {u v : List ℕ} → Lasso m.letters u v → Accepts m (level g marks) u v ↔ (g ≤ outcome m acc u v)
    marked_accepts l = (accepted_outcome l, outcome_accepted l)

    one_way : {u v u' v' : List ℕ} → Lasso m.letters u v → Lasso m.letters u' v' → value m u ≡ value m u' → value m v ≡ value m v'
        → Accepts m (level g marks) u v → Accepts m (level g marks) u' v'
    unfolding outcome
    one_way l l' eu ev a =
        outcome_accepted l' (subst (λ n. g ≤ n) (ap₂ (λ x y. value_outcome acc (first_value x y) y) eu ev) (accepted_outcome l a))

    -- the marking is strong
    pub marked_strong : Strong m (level g marks)
    marked_strong = record {
      both_or_neither = λ u v u' v' l l' eu ev. (one_way l l' eu ev, one_way l' l (sym eu) (sym ev));
    }

-- a lasso has grade g or more exactly if its outcome is that or more
abbrev pub GradesAreOutcomes : Morphism → Marking → (ℕ → ℕ → ℕ) → Type 0
GradesAreOutcomes m marks acc = (g : ℕ) → 1 ≤ g → (u v : List ℕ) → Lasso m.letters u v → AtLeast m marks g u v ↔ (g ≤ outcome m acc u v)

-- the linked pairs marked with their outcomes give each lasso its outcome for a grade, are strong, and each linked pair has the grade of
-- its lassos
pub record Saturates (m : Morphism) (acc : ℕ → ℕ → ℕ) (marks : Marking) : Type 0 where
  pub accepts : GradesAreOutcomes m marks acc
  pub strong : StrongMarking m marks
  pub linked_only : LinkedOnly m (level 1 marks)
  pub marks_grades : MarksGrades m marks

-- each lasso has its outcome for a grade
pub saturates_graded : {m : Morphism} {acc : ℕ → ℕ → ℕ} {marks : Marking} {u v : List ℕ} → Saturates m acc marks → Lasso m.letters u v → Graded m marks u v (outcome m acc u v)
saturates_graded {u = u} {v = v} k l = graded_by (λ g some. k.accepts g some u v l)

-- every marking of them does so
pub marks_saturate : {m : Morphism} {acc : ℕ → ℕ → ℕ} {marks : Marking} → Lawful m → AllReached m → DependsOnWord m acc → MarksOutcomes m acc marks → Saturates m acc marks
marks_saturate {m} {acc} {marks} law reached depends by_outcomes = record {
  accepts = λ g some u v l. marked_accepts by_outcomes some law depends l;
  strong = record { at_each = λ g some. marked_strong by_outcomes some law depends };
  linked_only = marked_linked by_outcomes (omega arith);
  marks_grades = record {
    of_linked = λ s e k. record {
      linked = k;
      lassos = record {
        start = reached.word_of s k.inside;
        cycle = reached.word_of e k.idempotent.inside;
        graded = λ u v l eu ev.
            subst (Graded m marks u v)
            (outcome_at_lem acc (record { over = l.start_over; is = eu }) (record { over = l.cycle_over; is = ev }) ∙ sym (by_outcomes.of_linked s e k))
            (graded_by (λ g some. marked_accepts by_outcomes some law depends l));
      };
    };
    of_others = by_outcomes.of_others;
  };
}

-- one of them: a linked pair's mark is its outcome, every other pair's is 0
unfoldable pub saturated : Morphism → (ℕ → ℕ → ℕ) → Marking
saturated m acc s e =
    let number = acc s e in
    cond (linked_test m s e) number 0

module _ {m : Morphism} (acc : ℕ → ℕ → ℕ) where
  pub saturated_at : (s e : ℕ) → Linked m s e → saturated m acc s e ≡ acc s e
  unfolding saturated
  saturated_at s e l = rw (T_true (linked_test m s e) (linked_intro l)) refl

  pub saturated_other : (s e : ℕ) → (Linked m s e → ⊥) → saturated m acc s e ≡ 0
  unfolding saturated
  saturated_other s e f = rw (T_false (linked_test m s e) (λ t. f (linked_elim m s e t))) refl

  pub saturated_marks : MarksOutcomes m acc (saturated m acc)
  saturated_marks = record { of_linked = saturated_at; of_others = λ s e hs he. saturated_other s e }

-- no mark is above a bound of its outcome
pub saturated_small : (m : Morphism) (acc : ℕ → ℕ → ℕ) (bound s e : ℕ) → acc s e ≤ bound → saturated m acc s e ≤ bound
unfolding saturated
saturated_small m acc bound s e h = go (linked_test m s e)
  where
    go : (b : Bool) → cond b (acc s e) 0 ≤ bound
    go true = h
    go false = omega arith

pub saturates_marking : {m : Morphism} {acc : ℕ → ℕ → ℕ} → Lawful m → AllReached m → DependsOnWord m acc → Saturates m acc (saturated m acc)
saturates_marking {acc = acc} law reached depends = marks_saturate law reached depends (saturated_marks acc)

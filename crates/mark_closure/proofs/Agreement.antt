-- Only pairs of elements count: sets of pairs that agree on the elements accept the same lassos, are both linked and strong or
-- neither, and have the same closure, and markings that agree there have the same closure. Assumes nothing.
use Prim.Native.Nat.{ℕ, ◌≤◌, ◌<◌}
use mathlib.Core.Path.{◌≡◌, sym, ◌∙◌, subst}
use mathlib.Core.Logic.{◌↔◌}
use mathlib.Core.List.{List}
use native.Mathlib.Nat.{le_trans}
use lib.Dec.{T}
use Rattle.finite.proofs.Tests.{tests_equal}
use Rattle.theory.specs.Rules.{Morphism, Lawful, Marking, Pairs, level}
use Rattle.theory.specs.Acceptance.{Accepts, Strong}
use Rattle.theory.specs.Pairs.{LinkedOnly}
use Rattle.theory.specs.Grades.{StrongMarking}
use Rattle.theory.proofs.Values.{inside_of}
use Rattle.theory.proofs.Strength.{Closed}
use Rattle.theory.proofs.Closure.{closure_test, closure_intro, closure_elim}
use Rattle.theory.proofs.Included.{closed_marks_strong}
use Rattle.theory.proofs.Gradings.{GradedMarks, accepts_larger, level_up, level_linked}
use Rattle.theory.proofs.GradedStrength.{levels_strong}
use Rattle.theory.proofs.ClosureGrades.{closure_grade, closure_grade_small, closure_level, closure_grade_is}
use Rattle.scratch.specs.Map.{marks_from, MarkingAt}
use Rattle.scratch.proofs.Markings.{level_same}
use Rattle.mark_closure.specs.Closure.{ClosureLaid, ClosedMarks}

-- the sets agree on the elements
abbrev pub SameOn : Morphism → Pairs → Pairs → Type 0
SameOn m P Q = (s e : ℕ) → s < m.size → e < m.size → P s e ≡ Q s e

pub same_back : (m : Morphism) (P Q : Pairs) → SameOn m P Q → SameOn m Q P
same_back m P Q same s e hs he = sym (same s e hs he)

module _ (m : Morphism) (P Q : Pairs) (same : SameOn m P Q) where
  pub linked_agrees : LinkedOnly m P → LinkedOnly m Q
  linked_agrees l = record { linked = λ s e hs he t. l.linked s e hs he (subst T (sym (same s e hs he)) t) }

  closed_agrees : {s e : ℕ} → Closed m P s e → Closed m Q s e
  closed_agrees c = record {
    to_start = c.to_start;
    to_cycle = c.to_cycle;
    conjugate = c.conjugate;
    has_mark = subst T (same c.to_start c.to_cycle c.conjugate.right_linked.inside c.conjugate.right_linked.idempotent.inside) c.has_mark;
  }

  accepted : {u v : List ℕ} → Lawful m → Accepts m P u v → Accepts m Q u v
  accepted law a =
      accepts_larger a
      (subst T (same a.element_of_start a.cycle_element (inside_of law a.start_over a.start_value) (inside_of law a.cycle_over a.cycle_value))
      a.has_mark)

module _ {m : Morphism} (law : Lawful m) (P Q : Pairs) (same : SameOn m P Q) where
  pub accepts_agrees : (u v : List ℕ) → Accepts m P u v ↔ Accepts m Q u v
  accepts_agrees u v = (accepted m P Q same law, accepted m Q P (same_back m P Q same) law)

  pub strong_agrees : Strong m P → Strong m Q
  strong_agrees s = record {
    both_or_neither = λ u v u' v' l l' eu ev.
        (let k = s.both_or_neither u v u' v' l l' eu ev in
        (λ a. (accepts_agrees u' v').0 (k.0 ((accepts_agrees u v).1 a)), λ a. (accepts_agrees u v).0 (k.1 ((accepts_agrees u' v').1 a))));
  }

  pub closure_agrees : LinkedOnly m P → (s e : ℕ) → closure_test m P s e ≡ closure_test m Q s e
  closure_agrees linked s e =
      tests_equal (closure_test m P s e) (closure_test m Q s e)
      (λ t. closure_intro (closed_agrees m P Q same (closure_elim law linked s e t)))
      (λ t. closure_intro (closed_agrees m Q P (same_back m P Q same) (closure_elim law (linked_agrees m P Q same linked) s e t)))

-- markings that agree on the elements
module _ {m : Morphism} (law : Lawful m) (F G : Marking) (same : (s e : ℕ) → s < m.size → e < m.size → F s e ≡ G s e) where
  level_agrees : (g : ℕ) → SameOn m (level g F) (level g G)
  level_agrees g s e hs he = level_same g F G (same s e hs he)

  pub graded_agrees : GradedMarks m F → GradedMarks m G
  graded_agrees k = record {
    small = λ s e hs he. subst (λ (x : ℕ). x ≤ 3) (same s e hs he) (k.small s e hs he);
    linked = linked_agrees m (level 1 F) (level 1 G) (level_agrees 1) k.linked;
  }

  pub marking_strong_agrees : StrongMarking m F → StrongMarking m G
  marking_strong_agrees k = record { at_each = λ g some. strong_agrees law (level g F) (level g G) (level_agrees g) (k.at_each g some) }

  pub closure_grade_agrees : GradedMarks m F → (s e : ℕ) → closure_grade m F s e ≡ closure_grade m G s e
  closure_grade_agrees k s e = closure_grade_is law k s e (closure_grade_small m G s e) (λ g some h.
      (let q = closure_agrees law (level g F) (level g G) (level_agrees g) (level_linked law k some) s e in
      let c = closure_level law (graded_agrees k) g s e some h in
      (λ t. c.0 (subst T q t), λ l. subst T (sym q) (c.1 l))))

-- the closure that was laid out is that of the rule's marks
pub laid_closure : {m : Morphism} {entry exit : List ℕ} → Lawful m → (marks : Marking) → GradedMarks m marks → MarkingAt m.size marks entry 0 → ClosureLaid m entry exit
    → MarkingAt m.size (closure_grade m marks) exit 4096
laid_closure {entry = entry} law marks k t l = record {
  same = λ s e hs he. closure_grade_agrees law marks (marks_from entry 0) t.same k s e ∙ l.closure.same s e hs he;
}

-- closed marks are strong
pub closed_strong : {m : Morphism} {marks : Marking} → Lawful m → GradedMarks m marks → ClosedMarks m marks → StrongMarking m marks
closed_strong {m} {marks} law k c = levels_strong law k (λ g some h.
    closed_marks_strong law (level_linked law k some)
    (λ s e hs he t. level_up marks g s e (le_trans ((closure_level law k g s e some h).0 t) (c.closed s e hs he))))

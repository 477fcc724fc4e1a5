-- The rule of an automaton. Its elements are the matrices of words: every element is some word's value, and the product of
-- elements is that of their matrices. Acceptance by the automaton depends on the values only. Marked as document 01 says, the
-- rule is strong, accepts exactly the lassos with an accepting run, and marks every linked pair whose lassos are accepted; so with the
-- grade 3 on each mark it is strong, grades those lassos 3, and marks each linked pair with its lassos' grade. Assumes nothing.
use Prim.Native.Nat.{ℕ, ◌≤◌, ◌<◌}
use mathlib.Core.Path.{◌≡◌, refl, sym, ap, subst, ◌∙◌}
use mathlib.Core.Bool.{Bool, true, false, cond, ◌&&◌}
use mathlib.Core.List.{List}
use mathlib.Core.Logic.{◌↔◌, ⊎_elim}
use native.Mathlib.Omega.{arith}
use lib.ListN.{length}
use lib.Dec.{T, leb}
use Rattle.finite.proofs.Numbers.{le_or_lt}
use Rattle.finite.proofs.Tests.{T_and, T_and_left, T_and_right}
use Rattle.theory.specs.Words.{Over, Lasso}
use Rattle.theory.specs.Rules.{Morphism, Lawful, Pairs, Marking, level, element, value, WordOf, AllReached}
use Rattle.theory.specs.Acceptance.{Accepts, Strong}
use Rattle.theory.specs.Pairs.{Linked, LinkedOnly}
use Rattle.theory.specs.Grades.{AtLeast, StrongMarking}
use Rattle.theory.specs.Smallest.{MarksGrades}
use Rattle.theory.proofs.Words.{over_append}
use Rattle.theory.proofs.Values.{value_element, value_some, inside_of}
use Rattle.theory.proofs.Starts.{start_or_turn, lasso_started, same_started, equal_started, started_values}
use Rattle.theory.proofs.Strength.{value_two, settled_cycle, settled_start, settled_linked, Settled, settle_strength}
use Rattle.theory.proofs.GradedStrength.{levels_strong}
use Rattle.theory.proofs.Gradings.{GradedMarks, level_up, level_down, level_falls, at_least_small, graded_by}
use Rattle.theory.proofs.Closure.{linked_test, linked_intro, linked_elim}
use Rattle.buchi.specs.Automata.{Automaton, AcceptedBy}
use Rattle.buchi.specs.Matrices.{Matrix, IsMatrix, SameEntries, product}
use Rattle.buchi.specs.Rule.{MatrixWord, MatricesOf, Recurs, MarkedBy, AcceptsRuns}
use Rattle.buchi.proofs.Products.{equal_numbers}
use Rattle.buchi.proofs.WordMatrices.{matrix_unique, matrix_append}
use Rattle.buchi.proofs.Recurrence.{recurrence, recurs_accepted}
use Rattle.buchi.proofs.LassoRuns.{accepted_same}
use Rattle.buchi.proofs.MatrixTests.{recurs_test, recurs_intro, recurs_elim}

-- ---- the elements are matrices

module _ {a : Automaton} {m : Morphism} {matrix : ℕ → Matrix} (law : Lawful m) (mats : MatricesOf a m matrix) where
  -- a word has the matrix of its value
  pub value_matrix : {w : List ℕ} {s : ℕ} → Over m.letters w → value m w ≡ element s → IsMatrix a w (matrix s)
  value_matrix {w} {s} o e = mats.each_word w s (subst (λ k. Over k w) mats.same_letters o) e

  -- elements whose matrices have the same entries are equal
  pub matrix_injective : {s t : ℕ} → s < m.size → t < m.size → SameEntries a.states (matrix s) (matrix t) → s ≡ t
  matrix_injective {s} {t} hs ht = equal_numbers (mats.apart s t hs ht)

  -- every element is the value of the word that it is the matrix of
  word_of : (s : ℕ) → s < m.size → MatrixWord a (matrix s) → WordOf m s
  word_of s h w =
      let over : Over m.letters w.word = subst (λ k. Over k w.word) (sym mats.same_letters) w.over in
      let v = value_element law over w.some in
      let e : v.the ≡ s = matrix_injective v.inside h (matrix_unique (value_matrix over v.is) w.is_matrix) in
      record { word = w.word; over = over; its_value = v.is ∙ ap element e }

  pub elements_reached : AllReached m
  elements_reached = record { word_of = λ s h. word_of s h (mats.some_word s h) }

  -- the product of elements is the product of their matrices
  pub element_product : {s t : ℕ} → s < m.size → t < m.size → SameEntries a.states (product a.states (matrix s) (matrix t)) (matrix (m.product s t))
  element_product {s} {t} hs ht =
      let x = elements_reached.word_of s hs in
      let y = elements_reached.word_of t ht in
      matrix_unique (matrix_append (value_matrix x.over x.its_value) (value_matrix y.over y.its_value))
      (value_matrix (over_append x.over y.over) (value_two law x.over y.over x.its_value y.its_value))

  product_is : {s t r : ℕ} → s < m.size → t < m.size → m.product s t ≡ r → SameEntries a.states (product a.states (matrix s) (matrix t)) (matrix r)
  product_is {s} {t} hs ht e = subst (λ r. SameEntries a.states (product a.states (matrix s) (matrix t)) (matrix r)) e (element_product hs ht)

  -- ---- runs and values

  -- a lasso whose values are linked
  pub linked_recurrence : {x y : List ℕ} {s e : ℕ} → Linked m s e → Over m.letters x → Over m.letters y → value m x ≡ element s → value m y ≡ element e
      → AcceptedBy a x y ↔ Recurs a (matrix s) (matrix e)
  linked_recurrence {x} {y} {s} {e} l ox oy ex ey =
      recurrence (value_some m y e ey) (value_matrix ox ex) (value_matrix oy ey)
      (product_is l.idempotent.inside l.idempotent.inside l.idempotent.square)
      (product_is l.inside l.idempotent.inside l.stays)

  -- any lasso: its values decide
  pub value_recurrence : {u v : List ℕ} {s z : ℕ} → Over m.letters u → Over m.letters v → value m u ≡ element s → value m v ≡ element z
      → AcceptedBy a u v ↔ Recurs a (matrix (settled_start m s z)) (matrix (settled_cycle m z))
  value_recurrence {u} {v} {s} {z} ou ov eu ev =
      let t : Settled m u v s z = settle_strength law ou ov eu ev in
      let both = linked_recurrence (settled_linked law (inside_of law ou eu) (inside_of law ov ev)) t.start_over t.cycle_over t.start_value t.cycle_value in
      (λ k. both.0 (accepted_same (λ i. sym (t.same i)) k), λ k. accepted_same t.same (both.1 k))

  -- with a turn of its cycle for an empty start a lasso is accepted exactly if it was
  started_runs : (u v : List ℕ) → 0 < length v → AcceptedBy a (start_or_turn u v) v ↔ AcceptedBy a u v
  started_runs u v some = (accepted_same (same_started u v some), accepted_same (λ i. sym (same_started u v some i)))

  -- lassos whose starts have equal values and whose cycles have equal values are both accepted or both not
  pub same_values : {u v u' v' : List ℕ} → Lasso m.letters u v → Lasso m.letters u' v' → value m u ≡ value m u' → value m v ≡ value m v'
      → AcceptedBy a u v → AcceptedBy a u' v'
  same_values {u} {v} {u'} {v'} l l' eu ev k =
      let values = started_values law l in
      (started_runs u' v' l'.cycle_some).0
      ((value_recurrence (lasso_started l').start_over l'.cycle_over (sym (equal_started m u v u' v' eu ev) ∙ values.start.is) (sym ev ∙ values.cycle.is)).1
      ((value_recurrence (lasso_started l).start_over l.cycle_over values.start.is values.cycle.is).0 ((started_runs u v l.cycle_some).1 k)))

  -- ---- the marking

  module _ {P : Pairs} (marking : MarkedBy a m matrix P) where
    -- only linked pairs are marked
    pub marked_linked : LinkedOnly m P
    marked_linked = record { linked = λ s e hs he t. ((marking.marks s e hs he).0 t).0 }

    accepts_run : {u v : List ℕ} → Accepts m P u v → AcceptedBy a u v
    accepts_run k =
        let hs = inside_of law k.start_over k.start_value in
        let he = inside_of law k.cycle_over k.cycle_value in
        accepted_same k.same
        (recurs_accepted (value_some m k.cycle k.cycle_element k.cycle_value) (value_matrix k.start_over k.start_value) (value_matrix k.cycle_over k.cycle_value)
        ((marking.marks k.element_of_start k.cycle_element hs he).0 k.has_mark).1)

    run_accepts : {u v : List ℕ} → Lasso m.letters u v → AcceptedBy a u v → Accepts m P u v
    run_accepts {u} {v} l k =
        let s = (started_values law l).start in
        let z = (started_values law l).cycle in
        let over = (lasso_started l).start_over in
        let t : Settled m (start_or_turn u v) v s.the z.the = settle_strength law over l.cycle_over s.is z.is in
        let pair = settled_linked law s.inside z.inside in
        record {
          cycle_some = l.cycle_some;
          start = t.start;
          cycle = t.cycle;
          start_over = t.start_over;
          cycle_over = t.cycle_over;
          same = λ i. t.same i ∙ same_started u v l.cycle_some i;
          element_of_start = settled_start m s.the z.the;
          cycle_element = settled_cycle m z.the;
          start_value = t.start_value;
          cycle_value = t.cycle_value;
          has_mark =
              (marking.marks (settled_start m s.the z.the) (settled_cycle m z.the) pair.inside pair.idempotent.inside).1
              (pair, (value_recurrence over l.cycle_over s.is z.is).0 ((started_runs u v l.cycle_some).1 k));
        }

    -- "The rule accepts exactly the lassos on which some run from an initial state meets a final state again and again."
    pub rule_accepts_runs : AcceptsRuns a m P
    rule_accepts_runs = record { accepts = λ u v l. (accepts_run, run_accepts l) }

    -- the rule is strong
    pub rule_strong : Strong m P
    rule_strong = record {
      both_or_neither = λ u v u' v' l l' eu ev.
          (λ k. run_accepts l' (same_values l l' eu ev (accepts_run k)), λ k. run_accepts l (same_values l' l (sym eu) (sym ev) (accepts_run k)));
    }

    -- a lasso whose values are linked is accepted exactly if they are marked
    pub linked_mark : {u v : List ℕ} {s e : ℕ} → Linked m s e → Lasso m.letters u v → value m u ≡ element s → value m v ≡ element e
        → Accepts m P u v ↔ T (P s e)
    linked_mark {s = s} {e} k l eu ev =
        let both = linked_recurrence k l.start_over l.cycle_over eu ev in
        let mark = marking.marks s e k.inside k.idempotent.inside in
        (λ x. mark.1 (k, both.0 (accepts_run x)), λ t. run_accepts l (both.1 (mark.0 t).1))

-- ---- the marking with the grade 3

module _ {a : Automaton} {m : Morphism} {matrix : ℕ → Matrix} (marks : Marking) (law : Lawful m) (mats : MatricesOf a m matrix)
    (marking : MarkedBy a m matrix (level 1 marks)) (threes : (s e : ℕ) → s < m.size → e < m.size → 1 ≤ marks s e → marks s e ≡ 3) where
  -- the pairs of each least grade from 1 to 3 are the marked ones
  marked_at : (g : ℕ) → 1 ≤ g → g ≤ 3 → MarkedBy a m matrix (level g marks)
  marked_at g some small = record {
    marks = λ s e hs he.
        (let k = marking.marks s e hs he in (
          λ t. k.0 (level_falls marks 1 g s e some t),
          λ x. (let one = level_down marks 1 s e (k.1 x) in level_up marks g s e (omega (arith, threes s e hs he one))),
        ));
  }

  pub graded_accepts_runs : (g : ℕ) → 1 ≤ g → g ≤ 3 → AcceptsRuns a m (level g marks)
  graded_accepts_runs g some small = rule_accepts_runs law mats (marked_at g some small)

  pub graded_good : GradedMarks m marks
  graded_good = record {
    small = λ s e hs he. ⊎_elim (λ (h : 1 ≤ marks s e). omega (arith, threes s e hs he h)) (λ h. omega arith) (le_or_lt 1 (marks s e));
    linked = marked_linked law mats marking;
  }

  pub graded_strong : StrongMarking m marks
  graded_strong = levels_strong law graded_good (λ g some h. rule_strong law mats (marked_at g some h))

  levels : {u v : List ℕ} {s e : ℕ} → Linked m s e → Lasso m.letters u v → value m u ≡ element s → value m v ≡ element e
      → (g : ℕ) → 1 ≤ g → AtLeast m marks g u v ↔ (g ≤ marks s e)
  levels {s = s} {e} k l eu ev g some = (
    λ x. level_down marks g s e ((linked_mark law mats (marked_at g some (at_least_small law graded_good x)) k l eu ev).0 x),
    λ h.
        (let three = graded_good.small s e k.inside k.idempotent.inside in
        (linked_mark law mats (marked_at g some (omega (arith, h, three))) k l eu ev).1 (level_up marks g s e h)),
  )

  pub graded_marks : MarksGrades m marks
  graded_marks = record {
    of_linked = λ s e k. record {
      linked = k;
      lassos = record {
        start = (elements_reached law mats).word_of s k.inside;
        cycle = (elements_reached law mats).word_of e k.idempotent.inside;
        graded = λ u v l eu ev. graded_by (levels k l eu ev);
      };
    };
    of_others = λ s e hs he f.
        ⊎_elim (λ (h : 1 ≤ marks s e). absurd (f (graded_good.linked.linked s e hs he (level_up marks 1 s e h)))) (λ h. omega arith) (le_or_lt 1 (marks s e));
  }

-- ---- the marking computed

-- the pair is linked, and for some initial p and some q entry (p, q) of its first matrix is not 0 and entry (q, q) of its
-- second is 2
unfoldable pub run_pairs : Automaton → Morphism → (ℕ → Matrix) → Pairs
run_pairs a m matrix s e =
    let found = recurs_test a (matrix s) (matrix e) in
    linked_test m s e && found

-- "Automata mark with 3"
unfoldable pub run_marks : Automaton → Morphism → (ℕ → Matrix) → Marking
run_marks a m matrix s e =
    let found = run_pairs a m matrix s e in
    cond found 3 0

-- a choice between 3 and 0 is 1 or more exactly if it is 3
chosen : (b : Bool) → T (leb 1 (cond b 3 0)) ↔ T b
chosen true = (λ t. tt, λ t. tt)
chosen false = (λ t. t, λ t. t)

chosen_three : (b : Bool) → 1 ≤ cond b 3 0 → ◌≡◌ {A = ℕ} (cond b 3 0) 3
chosen_three true h = refl
chosen_three false h = absurd (omega arith)

pub run_marked : (a : Automaton) (m : Morphism) (matrix : ℕ → Matrix) → MarkedBy a m matrix (level 1 (run_marks a m matrix))
unfolding run_marks run_pairs level
run_marked a m matrix = record {
  marks = λ s e hs he.
      (let both = chosen (run_pairs a m matrix s e) in (
        λ t. (
          linked_elim m s e (T_and_left (linked_test m s e) _ (both.0 t)),
          recurs_elim a (matrix s) (matrix e) (T_and_right (linked_test m s e) _ (both.0 t)),
        ),
        λ k. both.1 (T_and (linked_test m s e) _ (linked_intro k.0) (recurs_intro a (matrix s) (matrix e) k.1)),
      ));
}

pub run_threes : (a : Automaton) (m : Morphism) (matrix : ℕ → Matrix) (s e : ℕ) → s < m.size → e < m.size → 1 ≤ run_marks a m matrix s e → run_marks a m matrix s e ≡ 3
unfolding run_marks
run_threes a m matrix s e hs he h = chosen_three (run_pairs a m matrix s e) h

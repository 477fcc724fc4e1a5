-- What the closure and the search say of strength. Assumes nothing.
use Prim.Native.Nat.{ℕ, ◌≤◌, ◌<◌}
use mathlib.Core.Path.{◌≡◌, refl, sym, ap, ◌∙◌, subst}
use mathlib.Core.Bool.{Bool, true}
use mathlib.Core.List.{List}
use native.Mathlib.Omega.{arith}
use lib.ListN.{length}
use Rattle.theory.specs.Rules.{Morphism, Lawful, Marking, Pairs, level}
use Rattle.theory.specs.Acceptance.{Strong}
use Rattle.theory.specs.Grades.{StrongMarking}
use Rattle.theory.proofs.Escapes.{Escapes}
use Rattle.theory.proofs.Closure.{closure_test, closure_linked}
use Rattle.theory.proofs.GradedStrength.{levels_strong}
use Rattle.theory.proofs.Gradings.{GradedMarks, level_linked}
use Rattle.theory.proofs.ClosureGrades.{closure_grade, closure_grade_small, closure_levels}
use Rattle.theory.proofs.ShortWords.{short_word}
use Rattle.theory.proofs.Included.{none_included, included_strong, strong_included, escape_witness}
use Rattle.sections.specs.Answers.{PartZeroed}
use Rattle.scratch.specs.Map.{second_base, tables_end, marks_from, MarkingAt}
use Rattle.mark_closure.specs.Closure.{ClosureRoom, ClosureAnswer, ClosedAnswer}
use Rattle.mark_closure.proofs.Agreement.{graded_agrees, marking_strong_agrees, laid_closure, closed_strong}
use Rattle.mark_search.specs.Search.{EscapeNeeds, EscapedAt}
use Rattle.mark_grade_search.specs.GradeSearch.{GradeEscapedAt, GradeEscapeAnswer, GradeEscaped}
use Rattle.mark_grade_search.specs.declared.GradeEscape.{GradeEscape}
use Rattle.std.specs.Prelude.{Option, Some, None, is_some, not}
use borrow.Author.Tests.{not-true, not-false}
use Rattle.scratch.proofs.Markings.{marking_itself, level_at, marking_kept}
use Rattle.mark_cycles.proofs.Spelled.{ended_escapes}
use Rattle.mark_strong.specs.Deciding.{DecideNeeds, StrongIf, Decided}

module _ {m : Morphism} {entry blank : List ℕ} (small : m.size ≤ 64) (place : DecideNeeds m 0 entry) (z : PartZeroed second_base tables_end entry blank) where
  -- the marks stand as before
  stands_blank : (marks : Marking) → MarkingAt m.size marks entry 0 → MarkingAt m.size marks blank 0
  stands_blank marks t = marking_kept 0 small (λ i g h. z.outside.before i h) t

  graded_blank : GradedMarks m (marks_from blank 0)
  graded_blank =
      graded_agrees place.lawful (marks_from entry 0) (marks_from blank 0) (stands_blank (marks_from entry 0) (marking_itself m.size entry 0)).same place.graded

  -- room for the closure
  pub closure_room : ClosureRoom m blank
  closure_room = record { room = omega (arith, place.room, z.outside.same_length); blank = z.zeros; graded = graded_blank }

  module _ {mid : List ℕ} {closed : Bool} (a : ClosureAnswer m blank mid closed) where
    second_stands : (marks : Marking) → GradedMarks m marks → MarkingAt m.size marks entry 0 → MarkingAt m.size (closure_grade m marks) mid second_base
    second_stands marks k t = laid_closure place.lawful marks k (stands_blank marks t) a.laid

    -- the marks have all of their closure
    pub decided_closed : closed ≡ true → Decided m entry mid true
    decided_closed e = record {
      same_length = a.laid.same_length ∙ z.outside.same_length;
      decision = λ marks k t. marking_strong_agrees place.lawful (marks_from blank 0) marks (λ s f hs hf. sym ((stands_blank marks t).same s f hs hf))
          (closed_strong place.lawful graded_blank (subst (ClosedAnswer m (marks_from blank 0)) e a.answered));
      closure = second_stands;
      marks = λ i h. a.laid.before i h ∙ z.outside.before i h;
      behind = λ i h. a.laid.after i (omega arith) ∙ z.outside.after i (omega arith);
    }

    -- the search compares the closure with the marks
    pub search_place : EscapeNeeds m second_base 0 mid
    search_place = record {
      lawful = place.lawful;
      first_base = omega arith;
      second_in_base = omega arith;
      room = omega (arith, place.room, a.laid.same_length, z.outside.same_length);
    }

    module _ {exit : List ℕ} {answer : Option GradeEscape} (r : GradeEscaped m second_base 0 mid exit answer) where
      after_search : {b : Bool} → ((marks : Marking) → GradedMarks m marks → MarkingAt m.size marks entry 0 → StrongIf m marks b) → Decided m entry exit b
      after_search v = record {
        same_length = r.same_length ∙ a.laid.same_length ∙ z.outside.same_length;
        decision = v;
        closure = λ marks k t. marking_kept second_base small (λ i g h. r.marks i h) (second_stands marks k t);
        marks = λ i h. r.marks i (omega arith) ∙ a.laid.before i h ∙ z.outside.before i h;
        behind = λ i h. r.behind i h ∙ a.laid.after i (omega arith) ∙ z.outside.after i (omega arith);
      }

      module _ (marks : Marking) (k : GradedMarks m marks) (t : MarkingAt m.size marks entry 0) where
        said : {answered : Option GradeEscape} → answer ≡ answered → GradeEscapeAnswer m (closure_grade m marks) marks exit answered
        said e =
            subst (GradeEscapeAnswer m (closure_grade m marks) marks exit) e
            (r.says (closure_grade m marks) marks (second_stands marks k t) (marking_kept 0 small (λ i g h. a.laid.before i h) (stands_blank marks t)))

        -- no cycle of the closure escapes, at any grade
        no_escape_strong : answer ≡ None → StrongMarking m marks
        no_escape_strong e = levels_strong place.lawful k within
          where
            within : (g : ℕ) → 1 ≤ g → g ≤ 3 → Strong m (level g marks)
            within g some h =
                let l = level_linked place.lawful k some in
                included_strong place.lawful l
                (none_included place.lawful (closure_linked m (level g marks)) l
                (subst (λ (P : Pairs). (s : ℕ) → s < m.size → (v : List ℕ) → Escapes m P (level g marks) s v → ⊥) (closure_levels place.lawful k g some h)
                (said e (λ s f hs hf. closure_grade_small m marks s f) g some)))

        -- one does
        escape_weak : {found : GradeEscape} → answer ≡ Some found → StrongMarking m marks → ⊥
        escape_weak {found} e strong =
            let g = found.grade in
            let s = found.escape.start in
            let i = found.escape.entry in
            let d : GradeEscapedAt m (closure_grade m marks) marks exit g s i = said e in
            let x : EscapedAt m (closure_test m (level g marks)) (level g marks) s exit i =
            subst (λ (P : Pairs). EscapedAt m P (level g marks) s exit i) (closure_levels place.lawful k g d.some d.small) d.escaped in
            let l = level_linked place.lawful k d.some in
            let w = escape_witness place.lawful (closure_linked m (level g marks)) l (short_word place.lawful (place.reached.word_of s x.start_inside))
            (ended_escapes place.lawful x.ended) in
            w.refused_second ((strong_included place.lawful l place.reached (strong.at_each g d.some)).accepted_too _ _ w.lasso w.accepted_first)

      pub decided_searched : {b : Bool} → is_some answer ≡ not b → Decided m entry exit b
      decided_searched {b} q = after_search (λ marks k t. go marks k t answer refl)
        where
          go : (marks : Marking) → GradedMarks m marks → MarkingAt m.size marks entry 0 → (a : Option GradeEscape) → answer ≡ a → StrongIf m marks b
          go marks k t None e = subst (StrongIf m marks) (sym (not-false b (sym q ∙ ap is_some e))) (no_escape_strong marks k t e)
          go marks k t (Some found) e = subst (StrongIf m marks) (sym (not-true b (sym q ∙ ap is_some e))) (escape_weak marks k t e)

-- marks that stand in another table too can be decided there
pub needs_moved : {m : Morphism} {base to : ℕ} {entry now : List ℕ} → DecideNeeds m base entry → length now ≡ length entry
    → MarkingAt m.size (marks_from entry base) now to → DecideNeeds m to now
needs_moved {m} {base} {to} {entry} {now} place e t = record {
  lawful = place.lawful;
  reached = place.reached;
  graded = graded_agrees place.lawful (marks_from entry base) (marks_from now to) t.same place.graded;
  room = omega (arith, place.room);
}

-- the second table marks the closure of the marked pairs
pub closure_marked : {m : Morphism} {entry exit : List ℕ} {answer : Bool} → Lawful m → Decided m entry exit answer → (marks : Marking) → GradedMarks m marks
    → MarkingAt m.size marks entry 0 → (s e : ℕ) → s < m.size → e < m.size → closure_test m (level 1 marks) s e ≡ level 1 (marks_from exit second_base) s e
closure_marked law d marks k t s e hs he =
    sym (ap (λ (P : Pairs). P s e) (closure_levels law k 1 (omega arith) (omega arith))) ∙ level_at 1 (d.closure marks k t) hs he

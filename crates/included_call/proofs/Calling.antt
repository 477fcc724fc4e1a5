-- What each way through the call that compares two markings promises. Assumes nothing.
use Rattle.std.specs.Prelude.{Result}
use Rattle.answer.specs.declared.Fault.{Fault}
use Rattle.answer.proofs.Parts.{fault_by}
use Rattle.std.specs.Prelude.{Ok, Err}
use Rattle.answer.proofs.Parts.{refused_by}
use Prim.Native.Nat.{ℕ, ◌+◌, ◌*◌, ◌≤◌, ◌<◌}
use mathlib.Core.Path.{◌≡◌, refl, sym, ◌∙◌, subst}
use mathlib.Core.List.{List, ◌∷◌, ◌++◌}
use native.Mathlib.Omega.{arith}
use lib.ListN.{length, replicate}
use borrow.Author.Tests.{lt-ltb, le-ltb}
use Rattle.answer.specs.declared.Refusal.{Refusal}
use Rattle.answer.specs.declared.Refusal.TheVariants.{BufferTooShort}
use Rattle.answer.specs.Checks.{Verdict, passed, FirstFailure}
use Rattle.answer.proofs.Order.{refused_before, passed_before, passed_first, passed_last, passes_tail}
use Rattle.theory.specs.Rules.{Morphism}
use Rattle.theory.proofs.Gradings.{GradedMarks}
use Rattle.formats.specs.Sections.{two_bytes, section_checks}
use Rattle.formats.specs.Table.{morphism_at}
use Rattle.formats.specs.RuleFile.{elements_of, morphism_of, marking_of, mark_width, marks_section}
use Rattle.formats.proofs.SectionList.{good_at}
use Rattle.formats.proofs.MarkEntries.{grades_within}
use Rattle.formats.proofs.Buffers.{buffer_short, buffer_long}
use Rattle.formats.specs.RuleChecks.{scratch_size, trailing_check, mark_checks, second_marks_checks}
use Rattle.rule_layout.specs.declared.Shape.{Shape}
use Rattle.rule_marks.specs.Faults.{FaultAnswer}
use Rattle.rule_check.specs.Answers.{CheckPromise}
use Rattle.formats.specs.Calls.{checked_checks, after_call}
use Rattle.rule_check.proofs.Calls.{zeros_left, checked_length, shape_morphism}
use Rattle.formats.proofs.MarksPassed.{passed_marks, marking_linked, marking_at_most}
use Rattle.scratch.specs.Map.{second_base, marks_from, MarkingAt}
use Rattle.mark_strong.proofs.Calling.{checked_table, checked_lawful, checked_reached, checked_graded, marks_stand, checked_room}
use Rattle.included_call.specs.Laying.{SecondLaid, LaidAnswer}
use Rattle.mark_comparison.specs.Comparison.{CompareNeeds, Answered, answered_included, answered_apart, Compared}
use Rattle.promises.specs.Inclusion.{InclusionAnswer, start_size, cycle_size, second_marking, inclusion_checks, inclusion_verdict, inclusion_left, InclusionPromise}
use Rattle.promises.specs.declared.Inclusion.{Inclusion}
use Rattle.promises.specs.declared.Inclusion.TheVariants.{Refused}
use Rattle.scratch.proofs.Markings.{marking_kept}

module _ (bytes second u v entry : List ℕ) where
  -- a short buffer is refused, and all are left as they came
  pub start_short : length u < start_size → InclusionPromise bytes second u u v v entry entry (Refused BufferTooShort 1 0)
  start_short h = record {
    refusal = buffer_short h;
    answered = record { start_kept = refl; cycle_kept = refl };
    scratch = sym (simp (lt-ltb (length u) start_size h));
  }

  module _ (long : start_size ≤ length u) where
    pub cycle_short : length v < cycle_size → InclusionPromise bytes second u u v v entry entry (Refused BufferTooShort 1 0)
    cycle_short h = record {
      refusal = buffer_long long (buffer_short h);
      answered = record { start_kept = refl; cycle_kept = refl };
      scratch = sym (simp (le-ltb (length u) start_size long, lt-ltb (length v) cycle_size h));
    }

    module _ (wide : cycle_size ≤ length v) where
      after_buffers : {w : Verdict} → FirstFailure (checked_checks 1 bytes entry ++ second_marks_checks 2 bytes second) w → FirstFailure (inclusion_checks bytes second u v entry) w
      after_buffers f = buffer_long long (buffer_long wide f)

      left : {exit : List ℕ} → exit ≡ after_call entry → exit ≡ inclusion_left u v entry
      left e = e ∙ sym (simp (le-ltb (length u) start_size long, le-ltb (length v) cycle_size wide))

      -- the rule is refused
      pub rule_refused : {exit : List ℕ} {r : Refusal} {i place : ℕ} → CheckPromise 1 bytes entry exit (Err (refused_by r i place))
          → InclusionPromise bytes second u u v v entry exit (Refused r i place)
      rule_refused p = record {
        refusal = after_buffers (refused_before _ _ p.refusal);
        answered = record { start_kept = refl; cycle_kept = refl };
        scratch = left p.scratch;
      }

      module _ {shape : Shape} {mid : List ℕ} (p : CheckPromise 1 bytes entry mid (Ok shape)) where
        abbrev m : Morphism
        m = morphism_at bytes shape.elements shape.letters

        pub second_room : scratch_size ≤ length mid
        second_room = checked_room 1 bytes entry p

        zeros : (was end : List ℕ) → length was ≡ length mid → end ≡ replicate (length was) 0 → end ≡ inclusion_left u v entry
        zeros was end e z = left (zeros_left 1 bytes entry p.refusal was end (e ∙ checked_length p.scratch) z)

        module _ (answer : Result (Unit {0}) Fault) (verdict : FaultAnswer (λ input. second_marks_checks input bytes second) answer) (laid : List ℕ)
            (l : LaidAnswer second shape.elements mid laid answer) where
          -- the second marks are refused
          pub second_refused : {end : List ℕ} {r : Refusal} {place : ℕ} → answer ≡ Err (fault_by r place) → end ≡ replicate (length laid) 0
              → InclusionPromise bytes second u u v v entry end (Refused r 2 place)
          second_refused {end} e z = record {
            refusal = after_buffers (passed_before _ _ p.refusal (subst (FaultAnswer (λ input. second_marks_checks input bytes second)) e verdict 2));
            answered = record { start_kept = refl; cycle_kept = refl };
            scratch = zeros laid end (subst (LaidAnswer second shape.elements mid laid) e l) z;
          }

          module _ (e : answer ≡ (Ok tt)) where
            second_passed : FirstFailure (second_marks_checks 2 bytes second) passed
            second_passed = subst (FaultAnswer (λ input. second_marks_checks input bytes second)) e verdict 2

            second_laid : SecondLaid second shape.elements mid laid
            second_laid = subst (LaidAnswer second shape.elements mid laid) e l

            -- both tables of marks stand
            pub compare_place : CompareNeeds m laid
            compare_place = record {
              lawful = checked_lawful 1 bytes entry p;
              reached = checked_reached 1 bytes entry p;
              room = omega (arith, checked_room 1 bytes entry p, second_laid.same_length);
            }

            -- the second marks are linked, and their grades at most 3
            second_graded : GradedMarks m (second_marking second)
            unfolding second_marks_checks
            second_graded =
                let section : FirstFailure (section_checks (marks_section (elements_of bytes)) 2 0 second) passed = passed_first _ _ second_passed in
                let rest : FirstFailure (trailing_check 2 (2 + mark_width * two_bytes second 0) second ∷ mark_checks 2 (morphism_of bytes) second 0 0 (two_bytes second 0)) passed =
                passed_last (section_checks (marks_section (elements_of bytes)) 2 0 second) _ second_passed in
                subst (λ (x : Morphism). GradedMarks x (second_marking second)) (sym (shape_morphism p.scratch.shape_is)) (record {
                  small = λ s c hs hc. marking_at_most second 0 (grades_within (elements_of bytes) (good_at (marks_section (elements_of bytes)) 2 0 second section)) s c;
                  linked = marking_linked second 0 (passed_marks 2 (two_bytes second 0) (passes_tail rest));
                })

            second_stands : MarkingAt shape.elements (second_marking second) laid second_base
            unfolding marks_from
            second_stands = record { same = λ s c hs hc. sym (second_laid.mark s c hs hc) }

            first_stands : MarkingAt shape.elements (marking_of bytes) laid 0
            first_stands = marking_kept 0 (checked_table 1 bytes entry p).small (λ i g h. second_laid.before i h) (marks_stand 1 bytes entry p)

            -- the markings are compared
            pub both_compared : {u' v' end : List ℕ} {r : Inclusion} → Compared m u u' v v' laid end r → InclusionPromise bytes second u u' v v' entry end r
            both_compared {u'} {v'} {end} {r} c = record {
              refusal = after_buffers (subst (FirstFailure _) (sym (no_refusal c.answered)) (passed_before _ _ p.refusal second_passed));
              answered = subst (λ (x : Morphism). InclusionAnswer x (marking_of bytes) (second_marking second) u u' v v' r) (shape_morphism p.scratch.shape_is)
                  (c.answers (marking_of bytes) (second_marking second) (checked_graded 1 bytes entry p) second_graded first_stands second_stands);
              scratch = zeros laid end second_laid.same_length c.scratch;
            }
              where
                no_refusal : {x : Inclusion} → Answered x → inclusion_verdict x ≡ passed
                no_refusal answered_included = refl
                no_refusal answered_apart = refl

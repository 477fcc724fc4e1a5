-- What the call promises, from what the check of the rule, the verdict on its strength and the writing of the rule of `next` promise. Assumes nothing.
use Rattle.std.specs.Prelude.{Ok, Err}
use Rattle.answer.proofs.Parts.{refused_by}
use Rattle.std.proofs.Common.{Option, Some, None}
use Prim.Native.Nat.{ℕ, ◌≤◌, ◌<◌}
use native.Mathlib.Omega.{arith}
use mathlib.Core.Path.{◌≡◌, refl, sym, subst}
use mathlib.Core.Bool.{Bool, true, false}
use mathlib.Core.List.{List}
use lib.ListN.{length, replicate}
use Rattle.answer.specs.declared.Refusal.{Refusal}
use Rattle.answer.specs.declared.Refusal.TheVariants.{NotStrong, BufferTooShort}
use Rattle.theory.specs.Rules.{Morphism, Rule, element}
use Rattle.theory.specs.Rounds.{GradesByValues}
use Rattle.theory.specs.Grades.{StrongMarking, LassosGraded}
use Rattle.minimality.proofs.Combined.{StrongGrades}
use Rattle.temporal.specs.Nexts.{MoreNextClasses}
use Rattle.temporal.proofs.Decided.{strong_grades}
use Rattle.temporal.proofs.NextClasses.{more_tails}
use Rattle.temporal.proofs.NextRule.{NextRule, strong_next}
use Rattle.formats.specs.Table.{morphism_at}
use Rattle.formats.specs.RuleFile.{morphism_of, marking_of}
use Rattle.formats.specs.RuleChecks.{rule_size}
use Rattle.formats.proofs.Buffers.{buffer_short}
use Rattle.formats.proofs.GoodRule.{graded_marks, GoodRule, called_good}
use Rattle.formats.proofs.ReadBack.{written_rule}
use Rattle.rule_layout.specs.declared.Shape.{Shape}
use Rattle.rule_check.specs.Answers.{CheckPromise}
use Rattle.rule_check.proofs.Left.{short_left, long_left}
use Rattle.rule_check.proofs.Calls.{shape_morphism}
use Rattle.mark_strong.specs.Deciding.{StrongIf, Decided}
use Rattle.mark_strong.proofs.Calling.{checked_lawful, decided_file, decided_strong, closure_stands, decided_room, decided_left}
use Rattle.reduce_first_round.specs.Map.{outcome_of}
use Rattle.reduce_first_round.proofs.OutcomeBytes.{outcome_grading}
use Rattle.next_rule.specs.Writing.{NextNeeds, NextRuleWritten, NextWritten}
use Rattle.promises.specs.declared.Written.{Written}
use Rattle.promises.specs.declared.Written.TheVariants.{Refused}
use Rattle.temporal_promises.specs.Formed.{WrittenAs}
use Rattle.temporal_promises.specs.Next.{NextMade, NextPromise}
use Rattle.temporal_promises.proofs.NextOrder.{file_first, weak_next, classes_last, none_fails}
use Rattle.next_call.specs.Answers.{formed_of}

-- a short buffer is refused, and both are left as they came
pub out_short : (bytes out scratch : List ℕ) → length out < rule_size → NextPromise bytes out out scratch scratch (Refused BufferTooShort 1 0)
out_short bytes out scratch h = record { refusal = buffer_short h; answered = refl; scratch = short_left rule_size out scratch h }

module _ (bytes out entry : List ℕ) (out_long : rule_size ≤ length out) where
  -- the check's refusal is handed on
  pub next_refused : {mid : List ℕ} {r : Refusal} {input place : ℕ} → CheckPromise 1 bytes entry mid (Err (refused_by r input place)) → NextPromise bytes out out entry mid (Refused r input place)
  next_refused {r = r} {input} {place} p = record {
    refusal = file_first bytes out entry out_long r input place p.refusal;
    answered = refl;
    scratch = long_left rule_size out entry out_long p.scratch;
  }

  -- of a checked rule
  module _ {shape : Shape} {mid decided : List ℕ} {answer : Bool} (p : CheckPromise 1 bytes entry mid (Ok shape))
      (d : Decided (morphism_at bytes shape.elements shape.letters) mid decided answer) where
    good : GoodRule bytes
    good = called_good 1 bytes entry p.refusal

    same : morphism_at bytes shape.elements shape.letters ≡ morphism_of bytes
    same = shape_morphism p.scratch.shape_is

    pub next_place : NextNeeds (morphism_at bytes shape.elements shape.letters) decided out
    next_place = record {
      lawful = checked_lawful 1 bytes entry p;
      letters_some = omega (arith, good.letters_some, p.scratch.shape_is.letters);
      room = decided_room 1 bytes entry p d;
      out_room = out_long;
    }

    -- a rule that is not strong is refused
    pub next_weak : (end : List ℕ) → end ≡ replicate (length decided) 0 → answer ≡ false → NextPromise bytes out out entry end (Refused NotStrong 1 0)
    next_weak end z e = record {
      refusal = weak_next bytes out entry out_long p.refusal (subst (StrongIf (morphism_of bytes) (marking_of bytes)) e (decided_file 1 bytes entry p d));
      answered = refl;
      scratch = long_left rule_size out entry out_long (decided_left 1 bytes entry p d decided end refl z);
    }

    -- of a strong rule
    module _ (e : answer ≡ true) where
      strong : StrongMarking (morphism_of bytes) (marking_of bytes)
      strong = decided_strong 1 bytes entry p d e

      strong_rule : StrongGrades (morphism_of bytes) (marking_of bytes)
      strong_rule = record { lawful = good.lawful; reached = good.reached; grades = graded_marks good; strong = strong }

      -- the outcomes are its grades
      by_values : GradesByValues (morphism_of bytes) (marking_of bytes) (outcome_of (morphism_of bytes) decided)
      by_values = record {
        graded = λ s z hs hz.
            subst (LassosGraded (morphism_of bytes) (marking_of bytes) (element s) z)
            (sym (outcome_grading good.lawful good.table.small (marking_of bytes) decided (closure_stands 1 bytes entry p d) s z hs hz)) ((strong_grades strong_rule).graded s z hs hz);
      }

      module _ {after : List ℕ} {end : ℕ} (w : NextRuleWritten (morphism_of bytes) decided out after end) where
        rule : Rule
        rule = record { morphism = w.table; lawful = w.lawful; marks = w.marks }

        made : NextRule (morphism_of bytes) (marking_of bytes) rule
        unfolding rule
        made = strong_next rule strong_rule by_values w.classes w.marked

        written_as : WrittenAs (NextMade bytes) out after end
        unfolding rule
        written_as = record {
          rule = rule;
          makes = record {
            tail = w.tail;
            whole = w.whole;
            classes = w.classes;
            numbered = w.numbered;
            grades = made.next;
            strong = made.strong.strong;
            marks = made.marks_grades;
          };
          written = written_rule w.table w.marks
              (record { some = w.some; small = w.few; letters_some = rw w.classes.same_letters good.letters_some; letters_small = rw w.classes.same_letters good.table.letters_small })
              (record { grades = made.strong.grades.small }) w.lawful made.strong.grades.linked made.strong.reached w.written;
        }

        few_classes : ¬ MoreNextClasses (morphism_of bytes) 64
        few_classes more = let h = (more_tails w.lawful w.classes 64).0 more in omega (arith, w.few)

      -- the rule was written, or there are too many classes
      pub next_strong : {exit after : List ℕ} (file : Option ℕ) → NextWritten (morphism_at bytes shape.elements shape.letters) decided exit out after file
          → (end : List ℕ) → end ≡ replicate (length exit) 0 → NextPromise bytes out after entry end (formed_of file)
      next_strong {exit} {after} (Some length-of) w end z =
          let w' : NextRuleWritten (morphism_of bytes) decided out after length-of = subst (λ (m : Morphism). NextRuleWritten m decided out after length-of) same w.says in
          record {
            refusal = none_fails bytes out entry out_long p.refusal strong (few_classes w');
            answered = written_as w';
            scratch = long_left rule_size out entry out_long (decided_left 1 bytes entry p d exit end w.same_length z);
          }
      next_strong {exit} {after} None w end z = record {
        refusal = classes_last bytes out entry out_long p.refusal strong (subst (λ (m : Morphism). MoreNextClasses m 64) same w.says.more);
        answered = w.says.kept;
        scratch = long_left rule_size out entry out_long (decided_left 1 bytes entry p d exit end w.same_length z);
      }

      -- as the answer says it
      pub next_said : {exit after : List ℕ} (file : Option ℕ) → NextWritten (morphism_at bytes shape.elements shape.letters) decided exit out after file
          → (end : List ℕ) → end ≡ replicate (length exit) 0 → {said : Written} → said ≡ formed_of file → NextPromise bytes out after entry end said
      next_said {exit} {after} file w end z s = subst (NextPromise bytes out after entry end) (sym s) (next_strong file w end z)

-- What each way through the call for the complement promises. Assumes nothing.
use Rattle.std.specs.Prelude.{Ok, Err}
use Rattle.answer.proofs.Parts.{refused_by}
use Prim.Native.Nat.{ℕ, ◌≤◌, ◌<◌}
use mathlib.Core.Path.{◌≡◌, refl, sym, ap, ◌∙◌, subst}
use mathlib.Core.Bool.{Bool, true, false, not}
use mathlib.Core.List.{List}
use native.Mathlib.Omega.{arith}
use lib.ListN.{length, replicate}
use Rattle.answer.specs.declared.Refusal.{Refusal}
use Rattle.answer.specs.declared.Refusal.TheVariants.{BufferTooShort, NotStrong}
use Rattle.answer.proofs.Order.{first_passes, first_fails, none_left, refused_before, passed_before}
use Rattle.theory.specs.Rules.{Morphism}
use Rattle.theory.specs.Grades.{StrongMarking}
use Rattle.formats.specs.Table.{morphism_at}
use Rattle.formats.specs.RuleFile.{morphism_of, marking_of}
use Rattle.formats.specs.RuleChecks.{rule_size}
use Rattle.formats.proofs.Buffers.{buffer_short, buffer_long}
use Rattle.rule_layout.specs.declared.Shape.{Shape}
use Rattle.rule_check.specs.Answers.{CheckPromise}
use Rattle.formats.specs.Calls.{scratch_left}
use Rattle.rule_check.proofs.Left.{short_left, long_left}
use Rattle.rule_check.proofs.Calls.{zeros_left, checked_length, shape_morphism}
use Rattle.formats.proofs.GoodRule.{called_good}
use Rattle.formats.specs.ReadBack.{WrittenRule}
use Rattle.formats.proofs.ReadBack.{written_rule}
use Rattle.formats.specs.Front.{AtFront}
use Rattle.scratch.specs.Map.{second_base, marks_from}
use Rattle.mark_strong.specs.Deciding.{StrongIf, Decided}
use Rattle.promises.specs.Weak.{weak_check}
use Rattle.mark_strong.proofs.Calling.{checked_table, checked_lawful, checked_reached, checked_graded, marks_stand, checked_room, decided_file}
use Rattle.promises.specs.Complement.{ComplementMarks, ComplementPromise}
use Rattle.mark_complement_marks.specs.Complement.{ComplementLaid}
use Rattle.complement_call.specs.Promise.{WriteNeeds, second_file}
use Rattle.formats.specs.WrittenFile.{FitsGrades}
use Rattle.promises.specs.declared.Written.TheVariants.{Rule, Refused}
use Rattle.complement_call.proofs.Complements.{laid_complement, turned_small}

not_not : (b : Bool) → not (not b) ≡ b
not_not true = refl
not_not false = refl

module _ (bytes out entry : List ℕ) where
  -- a short buffer is refused, and both are left as they came
  pub out_short : length out < rule_size → ComplementPromise bytes out out entry entry (Refused BufferTooShort 1 0)
  out_short h = record {
    refusal = buffer_short h;
    answered = refl;
    scratch = short_left rule_size out entry h;
  }

  module _ (long : rule_size ≤ length out) where
    -- the rule is refused
    pub rule_refused : {exit : List ℕ} {r : Refusal} {i place : ℕ} → CheckPromise 1 bytes entry exit (Err (refused_by r i place))
        → ComplementPromise bytes out out entry exit (Refused r i place)
    rule_refused p = record { refusal = buffer_long long (refused_before _ _ p.refusal); answered = refl; scratch = long_left rule_size out entry long p.scratch }

    module _ {shape : Shape} {mid decided : List ℕ} {answer : Bool} (p : CheckPromise 1 bytes entry mid (Ok shape))
        (d : Decided (morphism_at bytes shape.elements shape.letters) mid decided answer) where
      abbrev m : Morphism
      m = morphism_at bytes shape.elements shape.letters

      same : m ≡ morphism_of bytes
      same = shape_morphism p.scratch.shape_is

      zeros : (was end : List ℕ) → length was ≡ length decided → end ≡ replicate (length was) 0 → end ≡ scratch_left rule_size out entry
      zeros was end e z = long_left rule_size out entry long (zeros_left 1 bytes entry p.refusal was end (e ∙ d.same_length ∙ checked_length p.scratch) z)

      -- the rule is weak
      pub weak_refused : {end : List ℕ} → not answer ≡ true → end ≡ replicate (length decided) 0 → ComplementPromise bytes out out entry end (Refused NotStrong 1 0)
      weak_refused {end} n z =
          let e : answer ≡ false = sym (not_not answer) ∙ ap not n in
          record {
            refusal = buffer_long long (passed_before _ _ p.refusal
                (first_fails (weak_check 1 bytes) (record { weak = subst (StrongIf (morphism_of bytes) (marking_of bytes)) e (decided_file 1 bytes entry p d); is_place = refl })));
            answered = refl;
            scratch = zeros decided end refl z;
          }

      module _ {laid : List ℕ} (l : ComplementLaid m decided laid) where
        pub write_place : WriteNeeds shape.letters laid out
        write_place = record {
          letters_some = omega (arith, (called_good 1 bytes entry p.refusal).letters_some, p.scratch.shape_is.letters);
          marks_long = omega (arith, checked_room 1 bytes entry p, d.same_length, l.same_length);
          room = long;
        }

        module _ (n : not answer ≡ false) where
          e : answer ≡ true
          e = sym (not_not answer) ∙ ap not n

          strong : StrongMarking m (marking_of bytes)
          strong = subst (StrongIf m (marking_of bytes)) e (d.decision (marking_of bytes) (checked_graded 1 bytes entry p) (marks_stand 1 bytes entry p))

          -- the second table has the marks of the complement
          second_marks : ComplementMarks m (marking_of bytes) (marks_from laid second_base)
          second_marks =
              laid_complement (checked_lawful 1 bytes entry p) (checked_reached 1 bytes entry p) (checked_graded 1 bytes entry p) strong
              (d.closure (marking_of bytes) (checked_graded 1 bytes entry p) (marks_stand 1 bytes entry p)) l

          grades_fit : FitsGrades m (marks_from laid second_base)
          grades_fit = record { grades = λ s c hs hc. rw (l.marks s c hs hc) (turned_small m (marks_from decided second_base) s c) }

          written : {exit : List ℕ} {r : ℕ} → AtFront (second_file m laid) out exit r → WrittenRule m (marks_from laid second_base) out exit r
          written w =
              let t = checked_table 1 bytes entry p in
              written_rule m (marks_from laid second_base)
              (record { some = t.some; small = t.small; letters_some = write_place.letters_some; letters_small = t.letters_small }) grades_fit
              (checked_lawful 1 bytes entry p) second_marks.linked (checked_reached 1 bytes entry p) w

          -- its file was written
          pub complement_written : {exit end : List ℕ} {r : ℕ} → AtFront (second_file m laid) out exit r → end ≡ replicate (length laid) 0
              → ComplementPromise bytes out exit entry end (Rule r)
          complement_written {exit} {end} {r} w z = record {
            refusal = buffer_long long (passed_before _ _ p.refusal
                (first_passes (record { nowhere = λ place f. f.weak (subst (λ (x : Morphism). StrongMarking x (marking_of bytes)) same strong) }) none_left));
            answered = record {
              marks = marks_from laid second_base;
              is_complement = subst (λ (x : Morphism). ComplementMarks x (marking_of bytes) (marks_from laid second_base)) same second_marks;
              written = subst (λ (x : Morphism). WrittenRule x (marks_from laid second_base) out exit r) same (written w);
            };
            scratch = zeros laid end l.same_length z;
          }

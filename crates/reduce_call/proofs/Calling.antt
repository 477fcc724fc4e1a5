-- What the call for the reduction promises, from what the check of the rule, the verdict on its strength and the writing of its
-- reduction promise. Assumes nothing.
use Rattle.std.specs.Prelude.{Ok, Err}
use Rattle.answer.proofs.Parts.{refused_by}
use Prim.Native.Nat.{ℕ, ◌≤◌, ◌<◌}
use mathlib.Core.Path.{◌≡◌, refl, sym, subst, ◌∙◌}
use mathlib.Core.Bool.{Bool, true, false}
use mathlib.Core.List.{List}
use native.Mathlib.Omega.{arith}
use lib.ListN.{length, replicate}
use borrow.Author.Tests.{lt-ltb, le-ltb}
use Rattle.answer.specs.declared.Refusal.{Refusal}
use Rattle.answer.specs.declared.Refusal.TheVariants.{NotStrong, BufferTooShort}
use Rattle.theory.specs.Rules.{Morphism}
use Rattle.theory.specs.Grades.{StrongMarking}
use Rattle.formats.specs.Table.{morphism_at}
use Rattle.formats.specs.RuleFile.{morphism_of, marking_of}
use Rattle.formats.specs.RuleChecks.{rule_size}
use Rattle.formats.proofs.Buffers.{buffer_short, buffer_long}
use Rattle.rule_layout.specs.declared.Shape.{Shape}
use Rattle.rule_check.specs.Answers.{CheckPromise}
use Rattle.formats.specs.Calls.{after_call, scratch_left}
use Rattle.rule_check.proofs.Left.{short_left, long_left}
use Rattle.formats.proofs.GoodRule.{graded_marks, GoodRule, called_good}
use Rattle.rule_check.proofs.Calls.{shape_morphism}
use Rattle.mark_strong.specs.Deciding.{StrongIf, Decided}
use Rattle.mark_strong.proofs.Calling.{checked_lawful, checked_reached, decided_file, decided_strong, closure_stands, decided_room, decided_left}
use Rattle.promises.specs.declared.Written.TheVariants.{Rule as Is-rule, Refused}
use Rattle.reduce_output.specs.Steps.{ReduceNeeds, ReducedWritten}
use Rattle.promises.specs.Reduce.{map_size, rule_of, ReducedTo, reduce_left, ReducePromise}
use Rattle.promises.proofs.ReduceOrder.{file_first, weak_last, none_fails}
use Rattle.reduce_call.proofs.Reducing.{call_reduces}

-- a short buffer is refused, and all are left as they came
pub out_short : (bytes out map scratch : List ℕ) → length out < rule_size → ReducePromise bytes out out map map scratch scratch (Refused BufferTooShort 1 0)
out_short bytes out map scratch h = record {
  refusal = buffer_short h;
  answered = record { out_kept = refl; map_kept = refl };
  scratch = rw (lt-ltb (length out) rule_size h) refl;
}

module _ (bytes out map entry : List ℕ) (out_long : rule_size ≤ length out) where
  -- scratch where out is long enough
  left : {exit : List ℕ} → exit ≡ scratch_left map_size map entry → exit ≡ reduce_left out map entry
  left e = e ∙ sym (simp (le-ltb (length out) rule_size out_long))

  pub map_short : length map < map_size → ReducePromise bytes out out map map entry entry (Refused BufferTooShort 1 0)
  map_short h = record {
    refusal = buffer_long out_long (buffer_short h);
    answered = record { out_kept = refl; map_kept = refl };
    scratch = left (short_left map_size map entry h);
  }

  module _ (map-long : map_size ≤ length map) where
    -- both are
    long_both : {exit : List ℕ} → exit ≡ after_call entry → exit ≡ reduce_left out map entry
    long_both e = left (long_left map_size map entry map-long e)

    -- the check's refusal is handed on
    pub reduce_refused : {mid : List ℕ} {r : Refusal} {input place : ℕ} → CheckPromise 1 bytes entry mid (Err (refused_by r input place))
        → ReducePromise bytes out out map map entry mid (Refused r input place)
    reduce_refused {r = r} {input} {place} p = record {
      refusal = file_first bytes out map entry out_long map-long r input place p.refusal;
      answered = record { out_kept = refl; map_kept = refl };
      scratch = long_both p.scratch;
    }

    -- of a checked rule
    module _ {shape : Shape} {mid decided : List ℕ} {answer : Bool} (p : CheckPromise 1 bytes entry mid (Ok shape))
        (d : Decided (morphism_at bytes shape.elements shape.letters) mid decided answer) where
      good : GoodRule bytes
      good = called_good 1 bytes entry p.refusal

      same : morphism_at bytes shape.elements shape.letters ≡ morphism_of bytes
      same = shape_morphism p.scratch.shape_is

      pub reduce_place : ReduceNeeds (morphism_at bytes shape.elements shape.letters) decided out map
      reduce_place = record {
        lawful = checked_lawful 1 bytes entry p;
        reached = checked_reached 1 bytes entry p;
        letters_some = omega (arith, good.letters_some, p.scratch.shape_is.letters);
        room = decided_room 1 bytes entry p d;
        out_room = out_long;
        map_room = map-long;
      }

      -- a rule that is not strong is refused
      pub reduce_weak : (end : List ℕ) → end ≡ replicate (length decided) 0 → answer ≡ false → ReducePromise bytes out out map map entry end (Refused NotStrong 1 0)
      reduce_weak end z e = record {
        refusal = weak_last bytes out map entry out_long map-long p.refusal (subst (StrongIf (morphism_of bytes) (marking_of bytes)) e (decided_file 1 bytes entry p d));
        answered = record { out_kept = refl; map_kept = refl };
        scratch = long_both (decided_left 1 bytes entry p d decided end refl z);
      }

      -- of a strong rule the reduction was written
      module _ {exit after map_after : List ℕ} {length-of : ℕ}
          (w : ReducedWritten (morphism_at bytes shape.elements shape.letters) decided exit out after map map_after length-of) (e : answer ≡ true) where
        strong : StrongMarking (morphism_of bytes) (marking_of bytes)
        strong = decided_strong 1 bytes entry p d e

        written : ReducedWritten (morphism_of bytes) decided exit out after map map_after length-of
        written = subst (λ (m : Morphism). ReducedWritten m decided exit out after map map_after length-of) same w

        reduced_to : ReducedTo bytes out after map map_after length-of
        reduced_to =
            let t = good.table in
            let q = call_reduces (rule_of bytes good.lawful) t.small good.letters_some t.letters_small good.reached (graded_marks good) strong (closure_stands 1 bytes entry p d) written in
            record {
              lawful = good.lawful;
              reduced = q.reduced;
              reduction = q.reduction;
              numbered = q.numbered;
              written = q.written;
              map = written.map;
              maps = q.maps;
              map_written = written.map_written;
            }

        pub reduce_strong : (end : List ℕ) → end ≡ replicate (length exit) 0 → ReducePromise bytes out after map map_after entry end (Is-rule length-of)
        reduce_strong end z = record {
          refusal = none_fails bytes out map entry out_long map-long p.refusal strong;
          answered = reduced_to;
          scratch = long_both (decided_left 1 bytes entry p d exit end w.same_length z);
        }

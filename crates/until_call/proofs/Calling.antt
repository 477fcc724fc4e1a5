-- What the call promises, from what the checks of both files and the checks behind them promise. Assumes nothing.
use Rattle.std.specs.Prelude.{Ok, Err}
use Rattle.answer.proofs.Parts.{refused_by}
use Prim.Native.Nat.{ℕ, ◌≤◌, ◌<◌}
use mathlib.Core.Path.{◌≡◌, refl, sym, ap, ◌∙◌}
use mathlib.Core.List.{List}
use borrow.Author.Tests.{lt-ltb, le-ltb}
use lib.ListN.{length, replicate}
use Rattle.answer.specs.declared.Refusal.{Refusal}
use Rattle.answer.specs.declared.Refusal.TheVariants.{BufferTooShort}
use Rattle.formats.specs.RuleChecks.{rule_size, scratch_size}
use Rattle.formats.specs.Calls.{after_call}
use Rattle.formats.proofs.Buffers.{buffer_short, buffer_long}
use Rattle.rule_layout.specs.declared.Shape.{Shape}
use Rattle.two_rules.specs.Checking.{BothPromise}
use Rattle.two_rules.proofs.Calling.{refused_then, passed_then, both_left}
use Rattle.promises.specs.declared.Written.{Written}
use Rattle.promises.specs.declared.Written.TheVariants.{Refused}
use Rattle.temporal_promises.specs.Until.{until_classes_size, until_own_checks, until_left, UntilPromise}
use Rattle.until_strong.specs.Steps.{UntilOwn}
use Rattle.until_strengths.specs.Steps.{BothReady}
use Rattle.until_call.specs.Buffers.{LongBuffers, UntilLong}

module _ (first second out classes entry : List ℕ) where
  -- the refusal of a file is handed on
  pub file_refused : {mid : List ℕ} {r : Refusal} {input place : ℕ} → BothPromise first second entry mid (Err (refused_by r input place))
      → UntilLong first second out out classes classes entry mid (Refused r input place)
  file_refused p = record {
    refusal = refused_then first second entry (until_own_checks first second) p;
    answered = refl;
    classes_length = refl;
    scratch = p.scratch;
  }

  module _ {one two : Shape} {mid : List ℕ} (p : BothPromise first second entry mid (Ok (one, two))) where
    -- of two files that pass the rule may be made
    pub both_place : LongBuffers out classes → BothReady first second one two mid classes out
    both_place b = record { entry = entry; checked = p; out_room = b.out_room; classes_room = b.classes_room }

    -- what the checks behind those of the files say decides
    pub files_made : {after classes' was end : List ℕ} {answer : Written} → UntilOwn first second out after classes classes' mid was answer → end ≡ replicate (length was) 0
        → UntilLong first second out after classes classes' entry end answer
    files_made {was = was} {end} q z = record {
      refusal = passed_then first second entry p (until_own_checks first second) q.refusal;
      answered = q.answered;
      classes_length = q.classes_length;
      scratch = both_left first second entry p was end q.same_length z;
    }

  -- a short buffer is refused, and all are left as they came
  pub out_short : length out < rule_size → UntilPromise first second out out classes classes entry entry (Refused BufferTooShort 1 0)
  out_short h = record {
    refusal = buffer_short h;
    answered = refl;
    classes = sym (simp (lt-ltb (length out) rule_size h));
    scratch = sym (simp (lt-ltb (length out) rule_size h));
  }

  module _ (out_long : rule_size ≤ length out) where
    pub classes_short : length classes < until_classes_size → UntilPromise first second out out classes classes entry entry (Refused BufferTooShort 1 0)
    classes_short h = record {
      refusal = buffer_long out_long (buffer_short h);
      answered = refl;
      classes = sym (simp (le-ltb (length out) rule_size out_long, lt-ltb (length classes) until_classes_size h));
      scratch = sym (simp (le-ltb (length out) rule_size out_long, lt-ltb (length classes) until_classes_size h));
    }

    module _ (classes_long : until_classes_size ≤ length classes) where
      pub long_buffers : LongBuffers out classes
      long_buffers = record { out_room = out_long; classes_room = classes_long }

      long_left : {exit : List ℕ} → exit ≡ after_call entry → exit ≡ until_left out classes entry
      long_left e = e ∙ sym (simp (le-ltb (length out) rule_size out_long, le-ltb (length classes) until_classes_size classes_long))

      pub scratch_short : length entry < scratch_size → UntilPromise first second out out classes classes entry entry (Refused BufferTooShort 1 0)
      unfolding after_call
      scratch_short h = record {
        refusal = buffer_long out_long (buffer_long classes_long (buffer_short h));
        answered = refl;
        classes = sym (simp (le-ltb (length out) rule_size out_long, le-ltb (length classes) until_classes_size classes_long, lt-ltb (length entry) scratch_size h));
        scratch = long_left (sym (simp (lt-ltb (length entry) scratch_size h)));
      }

      -- all are long enough
      pub long_made : scratch_size ≤ length entry → {after classes' zeroed exit : List ℕ} {answer : Written} → UntilLong first second out after classes classes' entry exit answer
          → zeroed ≡ replicate (length classes') 0 → UntilPromise first second out after classes zeroed entry exit answer
      long_made h q z = record {
        refusal = buffer_long out_long (buffer_long classes_long q.refusal);
        answered = q.answered;
        classes =
            z ∙ ap (λ (n : ℕ). replicate n 0) q.classes_length
            ∙ sym (simp (le-ltb (length out) rule_size out_long, le-ltb (length classes) until_classes_size classes_long, le-ltb (length entry) scratch_size h));
        scratch = long_left q.scratch;
      }

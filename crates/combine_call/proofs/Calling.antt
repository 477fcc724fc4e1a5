-- What the call that makes one rule of two promises, from what the checks of both files and the checks behind them promise. Assumes nothing.
use Rattle.std.specs.Prelude.{Ok, Err}
use Rattle.answer.proofs.Parts.{refused_by}
use Prim.Native.Nat.{ℕ, ◌≤◌, ◌<◌}
use mathlib.Core.Path.{◌≡◌, refl}
use mathlib.Core.List.{List}
use lib.ListN.{length, replicate}
use Rattle.answer.specs.declared.Refusal.{Refusal}
use Rattle.answer.specs.declared.Refusal.TheVariants.{BufferTooShort}
use Rattle.formats.specs.RuleChecks.{rule_size}
use Rattle.formats.proofs.Buffers.{buffer_short, buffer_long}
use Rattle.rule_layout.specs.declared.Shape.{Shape}
use Rattle.rule_check.proofs.Left.{short_left, long_left}
use Rattle.two_rules.specs.Checking.{BothPromise}
use Rattle.two_rules.proofs.Calling.{refused_then, passed_then, both_left}
use Rattle.promises.specs.declared.Operation.{Operation}
use Rattle.promises.specs.declared.Written.{Written}
use Rattle.promises.specs.declared.Written.TheVariants.{Refused}
use Rattle.promises.specs.Combine.{pair_checks, CombinePromise}
use Rattle.combine_pairs.specs.Steps.{PairsPromise}
use Rattle.combine_strengths.specs.Steps.{BothReady}

-- a short buffer is refused, and both are left as they came
pub out_short : (first second out scratch : List ℕ) {operation : Operation} → length out < rule_size
    → CombinePromise first second operation out out scratch scratch (Refused BufferTooShort 1 0)
out_short first second out scratch h = record { refusal = buffer_short h; answered = refl; scratch = short_left rule_size out scratch h }

module _ (first second out entry : List ℕ) (long : rule_size ≤ length out) where
  -- the refusal of a file is handed on
  pub file_refused : {operation : Operation} {mid : List ℕ} {r : Refusal} {input place : ℕ} → BothPromise first second entry mid (Err (refused_by r input place))
      → CombinePromise first second operation out out entry mid (Refused r input place)
  file_refused p = record {
    refusal = buffer_long long (refused_then first second entry (pair_checks first second) p);
    answered = refl;
    scratch = long_left rule_size out entry long p.scratch;
  }

  module _ {one two : Shape} {mid : List ℕ} (p : BothPromise first second entry mid (Ok (one, two))) where
    -- two files that pass may be combined
    pub both_place : BothReady first second one two mid out
    both_place = record { entry = entry; checked = p; out_room = long }

    -- what the checks behind those of the files say decides
    pub files_combined : {operation : Operation} {after was end : List ℕ} {answer : Written} → PairsPromise first second operation out after mid was answer → end ≡ replicate (length was) 0
        → CombinePromise first second operation out after entry end answer
    files_combined {was = was} {end} q z = record {
      refusal = buffer_long long (passed_then first second entry p (pair_checks first second) q.refusal);
      answered = q.answered;
      scratch = long_left rule_size out entry long (both_left first second entry p was end q.same_length z);
    }

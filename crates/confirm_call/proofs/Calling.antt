-- What the call that confirms a reduction promises, from what the checks of both files and the answer on two checked ones promise. Assumes
-- nothing.
use Rattle.std.specs.Prelude.{Ok, Err}
use Rattle.answer.proofs.Parts.{refused_by}
use Prim.Native.Nat.{ℕ}
use mathlib.Core.Path.{◌≡◌}
use mathlib.Core.List.{List, [], ◌∷◌}
use lib.ListN.{length, replicate}
use Rattle.answer.specs.declared.Refusal.{Refusal}
use Rattle.rule_layout.specs.declared.Shape.{Shape}
use Rattle.two_rules.specs.Checking.{BothPromise}
use Rattle.two_rules.proofs.Calling.{refused_then, passed_then, both_left}
use Rattle.promises.specs.declared.Confirmation.{Confirmation}
use Rattle.promises.specs.declared.Confirmation.TheVariants.{Refused}
use Rattle.promises.specs.Weak.{weak_check}
use Rattle.promises.specs.Confirm.{ConfirmPromise}
use Rattle.confirm_strengths.specs.Steps.{FilesReady, CheckedPromise}

-- two files that pass are ready
pub files_ready : {first second entry mid : List ℕ} {one two : Shape} → BothPromise first second entry mid (Ok (one, two)) → FilesReady first second one two mid
files_ready {entry = entry} p = record { entry = entry; checked = p }

module _ (first second map entry : List ℕ) where
  -- the refusal of a file is handed on
  pub file_refused : {mid : List ℕ} {r : Refusal} {input place : ℕ} → BothPromise first second entry mid (Err (refused_by r input place))
      → ConfirmPromise first second map entry mid (Refused r input place)
  file_refused p = record { refusal = refused_then first second entry (weak_check 1 first ∷ []) p; answered = tt; scratch = p.scratch }

  -- the answer on two that pass
  pub files_confirmed : {one two : Shape} {mid was end : List ℕ} {answer : Confirmation} → BothPromise first second entry mid (Ok (one, two))
      → CheckedPromise first second map mid was answer → end ≡ replicate (length was) 0 → ConfirmPromise first second map entry end answer
  files_confirmed {was = was} {end} p q z = record {
    refusal = passed_then first second entry p (weak_check 1 first ∷ []) q.refusal;
    answered = q.answered;
    scratch = both_left first second entry p was end q.same_length z;
  }

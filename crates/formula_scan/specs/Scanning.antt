-- What the pass over the bytes of a formula answers. Assumes nothing.
use Rattle.std.specs.Prelude.{ℕ, ◌≤◌, ◌≡◌, Bool, true, false, List, Result, Ok, Err, T}
use Rattle.answer.specs.Checks.{Verdict, passed, refused, FirstFailure}
use Rattle.temporal_promises.specs.FirstLetter.{in_set}
use Rattle.formula_promises.specs.Operations.{operation_at, behind, height_after}
use Rattle.formula_promises.specs.Checks.{operation_checks}
use Rattle.answer.specs.declared.Fault.{Fault}
use Rattle.formula_scan.specs.declared.Reached.{Reached}

pub record SomeForeign (letters set : ℕ) : Type 0 where
  pub letter : ℕ
  pub foreign : letters ≤ letter
  pub is_in_set : T (in_set set letter)

-- whether a set has a letter that is not below `letters`
abbrev pub ForeignAnswer : ℕ → ℕ → Bool → Type 0
ForeignAnswer letters set true = SomeForeign letters set
ForeignAnswer letters set false = (a : ℕ) → letters ≤ a → T (in_set set a) → ⊥

-- a check that fails, in the formula, and else none
abbrev pub scanned_verdict : {T : Type 0} → Result T Fault → Verdict
scanned_verdict (Ok value) = passed
scanned_verdict (Err fault) = refused fault.refusal 1 fault.place

-- the checks of an operation, and where it leads
pub record OperationChecked (letters : ℕ) (formula : List ℕ) (at height : ℕ) (answer : Result Reached Fault) : Type 0 where
  pub refusal : FirstFailure (operation_checks letters formula at height) (scanned_verdict answer)
  pub leads : (reached : Reached) → answer ≡ Ok reached → (reached.at ≡ behind formula at) × (reached.height ≡ height_after (operation_at formula at) height)

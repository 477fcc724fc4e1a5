-- The parts of the call for a whole formula. Assumes nothing.
use Rattle.std.specs.Prelude.{ℕ, ◌≤◌, ◌<◌, ◌≡◌, Bool, true, false, ◌⊎◌, List, length, replicate, Result, Ok, Err, IsOk}
use Rattle.answer.specs.declared.Fault.{Fault}
use Rattle.answer.specs.Checks.{FirstFailure}
use Rattle.formats.specs.RuleChecks.{rule_size, scratch_size}
use Rattle.formats.specs.Front.{AtFront}
use Rattle.promises.specs.declared.Written.{Written}
use Rattle.promises.specs.declared.Written.TheVariants.{Rule, Refused as Not-written}
use Rattle.temporal_promises.specs.Until.{until_classes_size}
use Rattle.board_promises.specs.Boards.{file_at}
use Rattle.formula_promises.specs.Checks.{stack_size, formula_checks}
use Rattle.formula_scan.specs.Scanning.{scanned_verdict}
use Rattle.formula_run.specs.Running.{FormulaStands}

-- a lent buffer is too short, or all are long enough, by their lengths
pub record LongEnough (out stack spare classes scratch : ℕ) : Type 0 where
  pub out_long : rule_size ≤ out
  pub stack_long : stack_size ≤ stack
  pub spare_long : rule_size ≤ spare
  pub classes_long : until_classes_size ≤ classes
  pub scratch_long : scratch_size ≤ scratch

abbrev pub LentAnswer : ℕ → ℕ → ℕ → ℕ → ℕ → Bool → Type 0
LentAnswer out stack spare classes scratch true =
    (out < rule_size) ⊎ ((stack < stack_size) ⊎ ((spare < rule_size) ⊎ ((classes < until_classes_size) ⊎ (scratch < scratch_size))))
LentAnswer out stack spare classes scratch false = LongEnough out stack spare classes scratch

-- zeros in all buffers but out
pub record LentCleared (stack stack_exit spare spare_exit classes classes_exit scratch scratch-exit : List ℕ) : Type 0 where
  pub stack_zeros : stack_exit ≡ replicate (length stack) 0
  pub spare_zeros : spare_exit ≡ replicate (length spare) 0
  pub classes_zeros : classes_exit ≡ replicate (length classes) 0
  pub scratch_zeros : scratch-exit ≡ replicate (length scratch) 0

-- the pass over the bytes and the run
pub record FormulaTried (letters : ℕ) (formula stack : List ℕ) (ran : Result Unit Fault) : Type 0 where
  pub refusal : FirstFailure (formula_checks letters formula) (scanned_verdict ran)
  pub stands : IsOk ran → FormulaStands letters formula stack

-- the file of the first slot was copied to the front of out, or a refusal keeps it
pub record Copied (stack before after : List ℕ) (answer : Written) : Type 0 where
  pub end : ℕ
  pub is : answer ≡ Rule end
  pub front : AtFront (file_at stack 0) before after end

abbrev pub Told : Result Unit Fault → List ℕ → List ℕ → List ℕ → Written → Type 0
Told (Ok done) stack before after answer = Copied stack before after answer
Told (Err fault) stack before after answer = (answer ≡ Not-written fault.refusal 1 fault.place) × (after ≡ before)

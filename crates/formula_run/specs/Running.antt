-- What carrying out all operations of a formula comes to. Assumes nothing.
use Rattle.std.specs.Prelude.{ℕ, List, [], length, Result, IsOk}
use Rattle.answer.specs.declared.Fault.{Fault}
use Rattle.answer.specs.Checks.{FirstFailure}
use Rattle.temporal.specs.Formulas.{Formula}
use Rattle.board_promises.specs.Boards.{file_at}
use Rattle.formula_promises.specs.Checks.{run_checks}
use Rattle.formula_promises.specs.FormulaRule.{FormulaOf}
use Rattle.formula_slots.specs.Slots.{ReductionFile}
use Rattle.formula_scan.specs.Scanning.{scanned_verdict}

-- the rule of the formula that the operations leave stands in the first slot
pub record FormulaStands (letters : ℕ) (formula stack : List ℕ) : Type 0 where
  pub meaning : Formula
  pub formula_is : FormulaOf formula meaning
  pub file : ReductionFile letters meaning (file_at stack 0)

pub record FormulaRan (letters : ℕ) (formula stack : List ℕ) (answer : Result Unit Fault) : Type 0 where
  pub refusal : FirstFailure (run_checks (length formula) letters formula 0 []) (scanned_verdict answer)
  pub stands : IsOk answer → FormulaStands letters formula stack

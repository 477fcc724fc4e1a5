-- What is read of the operation at a byte of a formula. Assumes nothing.
use Rattle.std.specs.Prelude.{ℕ, ◌≡◌, List}
use Rattle.formula_promises.specs.Operations.{operation_code_at, operand_at, set_at, operation_at}
use Rattle.formula_promises.specs.Values.{meant}
use Rattle.formula_reading.specs.declared.Reading.{Reading}

pub record ReadingAt (formula : List ℕ) (at : ℕ) (r : Reading) : Type 0 where
  pub code : r.code ≡ operation_code_at formula at
  pub operand : r.operand ≡ operand_at formula at
  pub number : r.number ≡ set_at formula at
  pub operation : meant r.operation ≡ operation_at formula at

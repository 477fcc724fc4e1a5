-- What the codes say of their operations. Assumes nothing.
use Prim.Native.Nat.{ℕ, ◌<◌}
use mathlib.Core.Path.{◌≡◌, sym, ap, ◌∙◌}
use mathlib.Core.List.{List}
use native.Mathlib.Omega.{arith}
use borrow.Author.Tests.{ne_eqb}
use Rattle.formula_promises.specs.Operations.{push_copy, operation_of, operation_code_at, operand_at, set_at}
use Rattle.formula_promises.specs.Values.{meant}
use Rattle.formula_promises.specs.declared.Operation.{Operation}
use Rattle.formula_promises.specs.declared.Operation.TheVariants.{Copy}
use Rattle.formula_reading.specs.Readings.{ReadingAt}

is_copy : (code operand number : ℕ) → 11 < code → operation_of code operand number ≡ push_copy operand
unfolding operation_of
is_copy code operand number h =
    simp (ne_eqb code 0 (λ e. omega arith), ne_eqb code 1 (λ e. omega arith), ne_eqb code 2 (λ e. omega arith), ne_eqb code 3 (λ e. omega arith), ne_eqb code 4 (λ e. omega arith), ne_eqb code 5 (λ e. omega arith), ne_eqb code 6 (λ e. omega arith), ne_eqb code 7 (λ e. omega arith), ne_eqb code 8 (λ e. omega arith), ne_eqb code 9 (λ e. omega arith), ne_eqb code 10 (λ e. omega arith), ne_eqb code 11 (λ e. omega arith))

module _ {formula : List ℕ} {at code operand number : ℕ} (c : code ≡ operation_code_at formula at) (o : operand ≡ operand_at formula at) (n : number ≡ set_at formula at) where
  read_as : (operation : Operation) → meant operation ≡ operation_of code operand number
      → ReadingAt formula at (record { code = code; operand = operand; number = number; operation = operation })
  read_as operation is = record { code = c; operand = o; number = n; operation = is ∙ cc (c, o, n) }

  pub read_known : (known : ℕ) (operation : Operation) → code ≡ known → meant operation ≡ operation_of known operand number
      → ReadingAt formula at (record { code = code; operand = operand; number = number; operation = operation })
  read_known known operation k is = read_as operation (is ∙ ap (λ (x : ℕ). operation_of x operand number) (sym k))

  pub read_copy : 11 < code → ReadingAt formula at (record { code = code; operand = operand; number = number; operation = Copy operand })
  read_copy h = read_as (Copy operand) (sym (is_copy code operand number h))

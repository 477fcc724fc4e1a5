-- One operation of a formula carried out on the stack of rules. Assumes nothing.
use Rattle.std.specs.Prelude.{ℕ, ◌≤◌, ◌≡◌, List, length, T, Result, Ok, Err, IsOk}
use Rattle.answer.specs.declared.Refusal.{Refusal}
use Rattle.answer.specs.Checks.{Verdict, passed, refused, FirstFailure}
use Rattle.temporal.specs.Formulas.{Formula}
use Rattle.temporal_promises.specs.FirstLetter.{in_set}
use Rattle.formula_promises.specs.Operations.{Operation, asks, height_after, stack_after}
use Rattle.formula_promises.specs.Checks.{highest_stack, grade_of, set_of, makings, making_checks}
use Rattle.formula_slots.specs.Slots.{Standing}

-- an operation that the pass over the bytes let through
pub record ApplyNeeds (letters : ℕ) (operation : Operation) (height : ℕ) : Type 0 where
  pub letters_some : 1 ≤ letters
  pub letters_few : letters ≤ 16
  pub small_grade : grade_of operation ≤ 3
  pub known_letters : (a : ℕ) → letters ≤ a → T (in_set (set_of operation) a) → ⊥
  pub enough : asks operation ≤ height
  pub few : height_after operation height ≤ highest_stack
  pub low : height ≤ highest_stack

-- what is told of the operation at a byte
abbrev pub applied_verdict : ℕ → Result Unit Refusal → Verdict
applied_verdict at (Ok done) = passed
applied_verdict at (Err refusal) = refused refusal 1 at

-- whatever formulas stood on the stack: the first making that is refused is told, and else the stack has what the operation leaves
pub record OperationApplied (letters : ℕ) (operation : Operation) (height : ℕ) (entry exit : List ℕ) (answer : Result Unit Refusal) : Type 0 where
  pub checked : (stack : List Formula) → length stack ≡ height → Standing letters entry stack → (at : ℕ)
      → FirstFailure (making_checks letters at (makings operation stack)) (applied_verdict at answer)
  pub stands : IsOk answer → (stack : List Formula) → length stack ≡ height → Standing letters entry stack → Standing letters exit (stack_after operation stack)

-- What the operations on one rule and on two leave. Assumes nothing.
use Rattle.std.specs.Prelude.{ℕ, List, Result, Ok, Err, IsOk}
use Rattle.answer.specs.declared.Refusal.{Refusal}
use Rattle.answer.specs.Checks.{FirstFailure}
use Rattle.temporal.specs.Formulas.{Formula}
use Rattle.board_promises.specs.Boards.{file_at}
use Rattle.promises.specs.declared.Written.{Written}
use Rattle.promises.specs.declared.Written.TheVariants.{Rule as Is-rule, Refused as Not-written}
use Rattle.formula_promises.specs.Operations.{One, Two, made_of_one, made_of_two}
use Rattle.formula_promises.specs.Checks.{Making, makings_of_one, makings_of_two, making_checks}
use Rattle.formula_slots.specs.Slots.{ReductionFile}
use Rattle.formula_operations.specs.Applying.{applied_verdict}

-- a step's answer, as an operation tells it
abbrev pub applied_of : Written → Result Unit Refusal
applied_of (Is-rule end) = Ok tt
applied_of (Not-written refusal input place) = Err refusal

-- of these makings the first that is refused is told; else there is a result
pub record MadeOrTold (letters : ℕ) (makings : List Making) (Outcome : Type 0) (answer : Result Unit Refusal) : Type 0 where
  pub checked : (at : ℕ) → FirstFailure (making_checks letters at makings) (applied_verdict at answer)
  pub result : IsOk answer → Outcome

-- on the rule in a slot, and on those in two
pub record OneApplied (letters : ℕ) (operation : One) (slot : ℕ) (entry exit : List ℕ) (answer : Result Unit Refusal) : Type 0 where
  pub made : (f : Formula) → ReductionFile letters f (file_at entry slot)
      → MadeOrTold letters (makings_of_one operation f) (ReductionFile letters (made_of_one operation f) (file_at exit slot)) answer

pub record TwoApplied (letters : ℕ) (operation : Two) (first second : ℕ) (entry exit : List ℕ) (answer : Result Unit Refusal) : Type 0 where
  pub made : (f g : Formula) → ReductionFile letters f (file_at entry first) → ReductionFile letters g (file_at entry second)
      → MadeOrTold letters (makings_of_two operation f g) (ReductionFile letters (made_of_two operation f g) (file_at exit first)) answer

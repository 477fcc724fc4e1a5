-- What a step leaves in a slot: the reduction of what was made of the rules in others. Assumes nothing.
use Rattle.std.specs.Prelude.{ℕ, ◌≡◌, Bool, true, false, List}
use Rattle.temporal.specs.Formulas.{Formula, negation}
use Rattle.board_promises.specs.Boards.{file_at}
use Rattle.promises.specs.declared.Written.{Written}
use Rattle.promises.specs.declared.Written.TheVariants.{Rule as Is-rule, Refused}
use Rattle.formula_promises.specs.Operations.{One, Two, made_of_one, made_of_two}
use Rattle.formula_promises.specs.Checks.{makings_of_one, makings_of_two}
use Rattle.formula_slots.specs.Slots.{ReductionFile}
use Rattle.formula_makings.specs.Makings.{FormulaFile, IsWritten, Made}

-- whatever formula the file in spare is for, the slot has its reduction
pub record ReducedInto (slot : ℕ) (spare exit : List ℕ) : Type 0 where
  pub reduced : (letters : ℕ) (f : Formula) → FormulaFile letters f (file_at spare 0) → ReductionFile letters f (file_at exit slot)

-- whether an answer is a refusal
abbrev pub is_refusal : Written → Bool
is_refusal (Is-rule end) = false
is_refusal (Refused refusal input place) = true

-- an answer passed on, after something was done with what was written
pub record PassedOn (Result : Type 0) (made answer : Written) : Type 0 where
  pub same_answer : answer ≡ made
  pub result : IsWritten made → Result

-- the reduction of a complement takes its place
pub record Negated (slot : ℕ) (entry exit : List ℕ) : Type 0 where
  pub made : (letters : ℕ) (f : Formula) → ReductionFile letters f (file_at entry slot) → ReductionFile letters (negation f) (file_at exit slot)

-- the reduction of what an operation makes of one rule takes its place
pub record OneStep (letters : ℕ) (operation : One) (slot : ℕ) (entry exit : List ℕ) (answer : Written) : Type 0 where
  pub made : (f : Formula) → ReductionFile letters f (file_at entry slot)
      → Made letters (makings_of_one operation f) (ReductionFile letters (made_of_one operation f) (file_at exit slot)) answer

-- the reduction of what an operation makes of two rules is put in a slot
pub record TwoStep (letters : ℕ) (operation : Two) (first second slot : ℕ) (entry exit : List ℕ) (answer : Written) : Type 0 where
  pub made : (f g : Formula) → ReductionFile letters f (file_at entry first) → ReductionFile letters g (file_at entry second)
      → Made letters (makings_of_two operation f g) (ReductionFile letters (made_of_two operation f g) (file_at exit slot)) answer

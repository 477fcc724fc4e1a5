-- What is made of the rules of formulas: a strong rule for the formula made of them, or the refusal that the formula's checks have. Assumes nothing.
use Rattle.std.specs.Prelude.{ℕ, ◌≤◌, ◌≡◌, ◌↔◌, List}
use Rattle.answer.specs.Checks.{Verdict, passed, refused, FirstFailure}
use Rattle.theory.specs.Words.{Lasso}
use Rattle.theory.specs.Grades.{AtLeast, StrongMarking}
use Rattle.temporal.specs.Formulas.{Formula, Means, negation}
use Rattle.formats.specs.RuleFile.{letters_of, morphism_of, marking_of}
use Rattle.formats.specs.RuleChecks.{rule_checks}
use Rattle.promises.specs.declared.Operation.{Operation}
use Rattle.promises.specs.declared.Operation.TheVariants.{Both, Either, Without}
use Rattle.promises.specs.declared.Written.{Written}
use Rattle.promises.specs.declared.Written.TheVariants.{Rule as Is-rule, Refused}
use Rattle.formula_promises.specs.Operations.{One, Two, op_both, op_either, op_without, made_of_one, made_of_two}
use Rattle.formula_promises.specs.Checks.{Making, makings_of_one, makings_of_two, making_checks}
use Rattle.formula_slots.specs.Slots.{ReductionFile}

-- the file of a strong rule for a formula: it passes every check of a rule file, and gives each lasso its grade by the formula
pub record FormulaFile (letters : ℕ) (f : Formula) (file : List ℕ) : Type 0 where
  pub passes : (input : ℕ) → FirstFailure (rule_checks input file) passed
  pub same_letters : letters_of file ≡ letters
  pub strong : StrongMarking (morphism_of file) (marking_of file)
  pub grades : (h : ℕ) → 1 ≤ h → (u v : List ℕ) → Lasso letters u v → AtLeast (morphism_of file) (marking_of file) h u v ↔ Means letters f h u v

-- what an answer of the library tells at the operation's byte
abbrev pub told_at : ℕ → Written → Verdict
told_at at (Is-rule end) = passed
told_at at (Refused refusal input place) = refused refusal 1 at

-- a rule was written
abbrev pub IsWritten : Written → Type 0
IsWritten (Is-rule end) = Unit {0}
IsWritten (Refused refusal input place) = ⊥

-- of these makings the first that is refused is told; else there is a result
pub record Made (letters : ℕ) (makings : List Making) (Result : Type 0) (answer : Written) : Type 0 where
  pub checked : (at : ℕ) → FirstFailure (making_checks letters at makings) (told_at at answer)
  pub result : IsWritten answer → Result

-- an operation of `combine` is one on two formulas
abbrev pub two_of : Operation → Two
two_of Both = op_both
two_of Either = op_either
two_of Without = op_without

-- whatever formula a file is the reduction of, a file is made for what is made of the formula
pub record ComplementMade (file result : List ℕ) : Type 0 where
  pub made : (letters : ℕ) (f : Formula) → ReductionFile letters f file → FormulaFile letters (negation f) result

pub record OneMade (operation : One) (file result : List ℕ) (answer : Written) : Type 0 where
  pub made : (letters : ℕ) (f : Formula) → ReductionFile letters f file → Made letters (makings_of_one operation f) (FormulaFile letters (made_of_one operation f) result) answer

pub record TwoMade (operation : Two) (first second result : List ℕ) (answer : Written) : Type 0 where
  pub made : (letters : ℕ) (f g : Formula) → ReductionFile letters f first → ReductionFile letters g second
      → Made letters (makings_of_two operation f g) (FormulaFile letters (made_of_two operation f g) result) answer

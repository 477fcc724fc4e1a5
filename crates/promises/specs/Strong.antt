-- What `strong` promises. Assumes nothing.
use Rattle.std.specs.Prelude.{◌≡◌, List, ℕ}
use Rattle.answer.specs.Checks.{Verdict, passed, refused, FirstFailure}
use Rattle.theory.specs.Grades.{StrongMarking}
use Rattle.formats.specs.RuleFile.{morphism_of, marking_of}
use Rattle.formats.specs.Calls.{checked_checks, after_call}
use Rattle.promises.specs.declared.Strength.{Strength}
use Rattle.promises.specs.declared.Strength.TheVariants.{Strong as Is-strong, Weak, Refused}

-- document 01's number, input and place of an answer
abbrev pub strength_verdict : Strength → Verdict
strength_verdict Is-strong = passed
strength_verdict Weak = passed
strength_verdict (Refused refusal input place) = refused refusal input place

-- strong by definition, or not
abbrev pub StrengthAnswer : List ℕ → Strength → Type 0
StrengthAnswer bytes Is-strong = StrongMarking (morphism_of bytes) (marking_of bytes)
StrengthAnswer bytes Weak = StrongMarking (morphism_of bytes) (marking_of bytes) → ⊥
StrengthAnswer bytes (Refused refusal input place) = Unit {0}

pub record StrongPromise (bytes entry exit : List ℕ) (answer : Strength) : Type 0 where
  pub refusal : FirstFailure (checked_checks 1 bytes entry) (strength_verdict answer)
  pub answered : StrengthAnswer bytes answer
  pub scratch : exit ≡ after_call entry

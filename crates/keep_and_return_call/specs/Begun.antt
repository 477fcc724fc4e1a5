-- What a keep and a return begin with: the length of the points, and the rule's own checks. Assumes nothing.
use Rattle.std.specs.Prelude.{Result, Ok, Err}
use Rattle.answer.specs.declared.Refused.{Refused}
use Rattle.std.specs.Prelude.{ℕ, ◌≡◌, List, ◌∷◌}
use Rattle.answer.specs.Checks.{Check, passed, refused, FirstFailure}
use Rattle.formats.specs.RuleFile.{elements_of}
use Rattle.formats.specs.RuleChecks.{buffer_check}
use Rattle.formats.specs.Calls.{checked_checks, scratch_left}
use Rattle.promises.specs.Points.{points_size}

-- "First 13", then the rule
abbrev pub first_checks : List ℕ → List ℕ → List ℕ → List Check
first_checks bytes points scratch = buffer_check points_size points ∷ checked_checks 1 bytes scratch

abbrev pub BegunAnswer : List ℕ → List ℕ → List ℕ → Result ℕ Refused → Type 0
BegunAnswer bytes points entry (Ok n) = FirstFailure (first_checks bytes points entry) passed × (n ≡ elements_of bytes)
BegunAnswer bytes points entry (Err refusal) = FirstFailure (first_checks bytes points entry) (refused refusal.refusal refusal.input refusal.place)

-- scratch as every call leaves it
pub record BegunPromise (bytes points entry exit : List ℕ) (answer : Result ℕ Refused) : Type 0 where
  pub says : BegunAnswer bytes points entry answer
  pub scratch : exit ≡ scratch_left points_size points entry

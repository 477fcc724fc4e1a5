-- What `member` promises. Document 01, "What a rule means" and "Order of the checks"; document 02, Jobs 6 and 12. Assumes nothing.
use Rattle.std.specs.Prelude.{ℕ, ◌≡◌, List, ◌++◌}
use Rattle.answer.specs.Checks.{Check, FirstFailure}
use Rattle.theory.specs.Grades.{Graded}
use Rattle.theory.specs.Pairs.{TurnsOf}
use Rattle.formats.specs.RuleFile.{letters_of, morphism_of, marking_of}
use Rattle.formats.specs.Calls.{checked_checks, after_call}
use Rattle.formats.specs.WordChecks.{lasso_checks}
use Rattle.promises.specs.declared.LassoVerdict.{LassoVerdict}
use Rattle.promises.specs.Answers.{decided_verdict, DecidedAnswer}

-- the rule's checks, then those of u and v
abbrev pub member_checks : List ℕ → List ℕ → List ℕ → List ℕ → List Check
member_checks bytes u v scratch = checked_checks 1 bytes scratch ++ lasso_checks (letters_of bytes) u v

-- the lasso's grade, and "how many turns of a cycle together have a value that repeating no longer changes", for v, "weak rules included" (Job 6)
abbrev pub MemberAnswer : List ℕ → List ℕ → List ℕ → LassoVerdict → Type 0
MemberAnswer bytes u v = DecidedAnswer (Graded (morphism_of bytes) (marking_of bytes) u v) (TurnsOf (morphism_of bytes) v)

pub record MemberPromise (bytes u v entry exit : List ℕ) (answer : LassoVerdict) : Type 0 where
  pub refusal : FirstFailure (member_checks bytes u v entry) (decided_verdict answer)
  pub answered : MemberAnswer bytes u v answer
  pub scratch : exit ≡ after_call entry

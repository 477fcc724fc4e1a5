-- What `verdict` promises: the grade of the lassos with the values of a monitor. Document 01, "Follower"; document 02, Jobs 4, 6 and
-- 12. Assumes nothing.
use Rattle.std.specs.Prelude.{ℕ, ◌≡◌, List, [], ◌∷◌, ◌++◌}
use Rattle.theory.specs.Pairs.{LeastExponent}
use Rattle.theory.specs.Grades.{LassosGraded}
use Rattle.answer.specs.declared.Refusal.TheVariants.{WordLength}
use Rattle.answer.specs.Checks.{Check, FirstFailure}
use Rattle.formats.specs.RuleFile.{morphism_of, marking_of}
use Rattle.formats.specs.Calls.{after_call}
use Rattle.promises.specs.declared.Monitor.{Monitor}
use Rattle.promises.specs.Monitor.{no_value, value_of, monitor_checks}
use Rattle.promises.specs.Weak.{weak_check}
use Rattle.promises.specs.declared.LassoVerdict.{LassoVerdict}
use Rattle.promises.specs.Answers.{decided_verdict, DecidedAnswer}

-- 11 "since none" (Job 4), whatever before is; place 0
pub record NoneAt (f : Monitor) (place : ℕ) : Type 0 where
  pub none : f.since ≡ no_value
  pub is_place : place ≡ 0

abbrev pub none_check : Monitor → Check
none_check f = record { refusal = WordLength; input = 1; Fails = NoneAt f }

-- the rule's checks and 3 for the monitor's values, as for an event; then "11 .. for a verdict", then 12
abbrev pub verdict_checks : List ℕ → Monitor → List ℕ → List Check
verdict_checks bytes f scratch = monitor_checks bytes f scratch ++ none_check f ∷ weak_check 1 bytes ∷ []

-- "that of the lasso whose start has value before and whose cycle has value since"; "A follower with before none and since not none
-- gets a verdict, that of its cycle alone" (Job 4): the start with the value none is the empty one. And how many turns settle the value of
-- since, whatever the grade (Job 6)
abbrev pub VerdictAnswer : List ℕ → Monitor → LassoVerdict → Type 0
VerdictAnswer bytes f =
    DecidedAnswer (LassosGraded (morphism_of bytes) (marking_of bytes) (value_of f.before) f.since) (LeastExponent (morphism_of bytes) f.since)

pub record VerdictPromise (bytes : List ℕ) (f : Monitor) (entry exit : List ℕ) (answer : LassoVerdict) : Type 0 where
  pub refusal : FirstFailure (verdict_checks bytes f entry) (decided_verdict answer)
  pub answered : VerdictAnswer bytes f answer
  pub scratch : exit ≡ after_call entry

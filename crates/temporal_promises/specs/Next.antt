-- What `next` promises. Assumes nothing.
use Rattle.std.specs.Prelude.{ℕ, ◌≡◌, List, [], ◌∷◌, ◌++◌}
use Rattle.answer.specs.declared.Refusal.TheVariants.{TooManyClasses}
use Rattle.answer.specs.Checks.{Check, FirstFailure}
use Rattle.theory.specs.Rules.{Rule, Value}
use Rattle.theory.specs.Grades.{RuleStrong}
use Rattle.theory.specs.Smallest.{MarksGrades}
use Rattle.temporal.specs.Temporal.{NextOf}
use Rattle.temporal.specs.Nexts.{NextClassesOf, MoreNextClasses}
use Rattle.formats.specs.FirstWords.{ByFirstWords}
use Rattle.formats.specs.RuleFile.{morphism_of, marking_of}
use Rattle.formats.specs.RuleChecks.{rule_size, buffer_check}
use Rattle.formats.specs.Calls.{checked_checks, scratch_left}
use Rattle.promises.specs.Weak.{weak_check}
use Rattle.promises.specs.declared.Written.{Written}
use Rattle.promises.specs.Answers.{written_verdict}
use Rattle.temporal_promises.specs.Formed.{FormedAnswer}

-- "23 (more than 64 such pairs; input 1, place 0)", of the values in the file's own table
pub record TooManyNextAt (bytes : List ℕ) (place : ℕ) : Type 0 where
  pub more : MoreNextClasses (morphism_of bytes) 64
  pub is_place : place ≡ 0

abbrev pub next_classes_check : List ℕ → Check
next_classes_check bytes = record { refusal = TooManyClasses; input = 1; Fails = TooManyNextAt bytes }

-- "12, 23"
abbrev pub next_own_checks : List ℕ → List Check
next_own_checks bytes = weak_check 1 bytes ∷ next_classes_check bytes ∷ []

-- "13, the rule's", then its own
abbrev pub next_checks : List ℕ → List ℕ → List ℕ → List Check
next_checks bytes out scratch = buffer_check rule_size out ∷ (checked_checks 1 bytes scratch ++ next_own_checks bytes)

-- "the rule that gives every lasso, of every length, empty starts too, the grade that the rule gives to the endless word without its first letter. Elements
-- are the pairs (value of what is behind the first letter, or none; value of the word) that non-empty words have, numbered by first words; it marks every linked
-- pair whose lassos it grades 1 or more, with that grade"
pub record NextMade (bytes : List ℕ) (rule : Rule) : Type 0 where
  pub tail : ℕ → Value
  pub whole : ℕ → ℕ
  pub classes : NextClassesOf (morphism_of bytes) rule.morphism tail whole
  pub numbered : ByFirstWords rule.morphism
  pub grades : NextOf (morphism_of bytes) (marking_of bytes) rule
  pub strong : RuleStrong rule
  pub marks : MarksGrades rule.morphism rule.marks

-- scratch as every call leaves it
pub record NextPromise (bytes before after entry exit : List ℕ) (answer : Written) : Type 0 where
  pub refusal : FirstFailure (next_checks bytes before entry) (written_verdict answer)
  pub answered : FormedAnswer (NextMade bytes) before after answer
  pub scratch : exit ≡ scratch_left rule_size before entry

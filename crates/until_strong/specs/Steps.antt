-- What is asked for and what is promised on the way from two strong rules to the rule of `until`. Assumes nothing.
use Rattle.std.specs.Prelude.{ℕ, ◌≤◌, ◌≡◌, List, length, Option, Some, None}
use Rattle.answer.specs.declared.Refusal.TheVariants.{TooManyClasses}
use Rattle.answer.specs.Checks.{FirstFailure}
use Rattle.formats.specs.RuleChecks.{rule_size}
use Rattle.rule_layout.specs.declared.Shape.{Shape}
use Rattle.two_rules.specs.Deciding.{StrongFiles}
use Rattle.promises.specs.declared.Written.{Written}
use Rattle.promises.specs.declared.Written.TheVariants.{Rule as Is-rule, Refused}
use Rattle.promises.specs.Answers.{written_verdict}
use Rattle.temporal_promises.specs.Formed.{FormedAnswer}
use Rattle.temporal_promises.specs.Until.{until_classes_size, until_own_checks, UntilMade}

-- the answer, from what was written
abbrev pub formed_of : Option ℕ → Written
formed_of (Some end) = Is-rule end
formed_of None = Refused TooManyClasses 1 0

-- two good rules over as many letters, both strong, the closures of their marks in scratch, and room
pub record UntilReady (first second : List ℕ) (one two : Shape) (scratch classes out : List ℕ) : Type 0 where
  pub files : StrongFiles first second one two scratch
  pub same_letters : one.letters ≡ two.letters
  pub out_room : rule_size ≤ length out
  pub classes_room : until_classes_size ≤ length classes

-- the verdict of the checks behind those of the files, and what was written
pub record UntilOwn (first second before after classes classes' entry exit : List ℕ) (answer : Written) : Type 0 where
  pub refusal : FirstFailure (until_own_checks first second) (written_verdict answer)
  pub answered : FormedAnswer (UntilMade first second) before after answer
  pub classes_length : length classes' ≡ length classes
  pub same_length : length exit ≡ length entry

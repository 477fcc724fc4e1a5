-- What is asked for and what is promised on the way from two strong rules to the rule of their pairs. Assumes nothing.
use Rattle.std.specs.Prelude.{ℕ, ◌≤◌, ◌≡◌, List, length}
use Rattle.answer.specs.Checks.{FirstFailure}
use Rattle.formats.specs.RuleChecks.{rule_size}
use Rattle.rule_layout.specs.declared.Shape.{Shape}
use Rattle.two_rules.specs.Deciding.{StrongFiles}
use Rattle.promises.specs.declared.Operation.{Operation}
use Rattle.promises.specs.declared.Written.{Written}
use Rattle.promises.specs.Answers.{written_verdict, WrittenAnswer}
use Rattle.promises.specs.Combine.{pair_checks, CombinedTo}

-- two good rules over as many letters, both strong, the closures of their marks in scratch
pub record StrongReady (first second : List ℕ) (one two : Shape) (scratch out : List ℕ) : Type 0 where
  pub files : StrongFiles first second one two scratch
  pub same_letters : one.letters ≡ two.letters
  pub out_room : rule_size ≤ length out

-- the verdict of the checks behind those of the files, and what was written
pub record PairsPromise (first second : List ℕ) (operation : Operation) (before after entry exit : List ℕ) (answer : Written) : Type 0 where
  pub refusal : FirstFailure (pair_checks first second) (written_verdict answer)
  pub answered : WrittenAnswer (CombinedTo first second operation before after) before after answer
  pub same_length : length exit ≡ length entry

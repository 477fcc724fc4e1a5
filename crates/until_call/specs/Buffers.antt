-- What `until` does where the buffers of the rule and of the classes are long enough. Assumes nothing.
use Rattle.std.specs.Prelude.{ℕ, ◌≤◌, ◌≡◌, List, ◌++◌, length}
use Rattle.answer.specs.Checks.{FirstFailure}
use Rattle.formats.specs.RuleChecks.{rule_size, rule_checks}
use Rattle.formats.specs.Calls.{after_call, checked_checks}
use Rattle.promises.specs.declared.Written.{Written}
use Rattle.promises.specs.Answers.{written_verdict}
use Rattle.temporal_promises.specs.Formed.{FormedAnswer}
use Rattle.temporal_promises.specs.Until.{until_classes_size, until_own_checks, UntilMade}

pub record LongBuffers (out classes : List ℕ) : Type 0 where
  pub out_room : rule_size ≤ length out
  pub classes_room : until_classes_size ≤ length classes

-- the checks of both files, then the call's own; of `classes` only its length is said
pub record UntilLong (first second before after classes classes' entry exit : List ℕ) (answer : Written) : Type 0 where
  pub refusal : FirstFailure (checked_checks 1 first entry ++ (rule_checks 2 second ++ until_own_checks first second)) (written_verdict answer)
  pub answered : FormedAnswer (UntilMade first second) before after answer
  pub classes_length : length classes' ≡ length classes
  pub scratch : exit ≡ after_call entry

-- What the functions below the call ask for and find. Assumes nothing.
use Rattle.std.specs.Prelude.{ℕ, ◌≤◌, ◌≡◌, Bool, List, length, replicate}
use Rattle.answer.specs.Checks.{passed, FirstFailure}
use Rattle.formats.specs.Calls.{checked_checks}
use Rattle.formats.specs.RuleChecks.{rule_size}
use Rattle.promises.specs.declared.Summary.{Summary}
use Rattle.promises.specs.Summary.{summary_verdict, ReducesTo, SummaryAnswer, work_after}

-- a rule that passes every check, and buffers that have their sizes
pub record CheckedNeeds (bytes work scratch : List ℕ) : Type 0 where
  pub room : rule_size ≤ length work
  pub passes : FirstFailure (checked_checks 1 bytes scratch) passed

-- whether the rule is strong, and the size of its reduction; scratch is zeros
pub record SizeFound (bytes entry exit : List ℕ) (strong : Bool) (reduced : ℕ) : Type 0 where
  pub reduces : ReducesTo bytes strong reduced
  pub scratch : exit ≡ replicate (length entry) 0

-- a summary, and never a refusal; scratch is zeros
pub record Measured (bytes before after entry exit : List ℕ) (answer : Summary) : Type 0 where
  pub passes : summary_verdict answer ≡ passed
  pub answered : SummaryAnswer bytes answer
  pub work : after ≡ work_after before answer
  pub scratch : exit ≡ replicate (length entry) 0
